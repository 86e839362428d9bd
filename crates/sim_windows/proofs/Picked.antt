-- Rows picked by their moments.
use Rattle.std.specs.Prelude.{All, Bool, List, [], cond, false, filter, not, true, ℕ, ◌&&◌, ◌<◌, ◌∷◌, ◌≡◌, ◌≤◌}
use Rattle.std.proofs.Common.{ap, arith, refl, ◌∙◌}
use Rattle.std.proofs.lemmas.Bool.{lt-ltb, ltb-true}
use Rattle.std.proofs.lemmas.List.Elements.{All-head, All-tail}
use Rattle.sim_engine.specs.Prefixes.{is_before}
use Rattle.sim_windows.specs.Stages.{is_from}
use Rattle.sim_engine.specs.Engine.{Engine}
use Rattle.sim_engine.specs.Laws.{Conditions, SiteLaws}

module _ {A : Type 0} where
  pub filter_both : (p q : A → Bool) (xs : List A) → filter p (filter q xs) ≡ filter (λ x. p x && q x) xs
  filter_both p q [] = refl
  filter_both p q (x ∷ xs) =
      elim (q x) as (λ b. filter p (cond b (x ∷ filter q xs) (filter q xs)) ≡ cond (p x && b) (x ∷ filter (λ y. p y && q y) xs) (filter (λ y. p y && q y) xs)) [
        | true ↦
            elim (p x) as (λ c. cond c (x ∷ filter p (filter q xs)) (filter p (filter q xs)) ≡ cond (c && true) (x ∷ filter (λ y. p y && q y) xs) (filter (λ y. p y && q y) xs)) [
              | true ↦ ap (λ z. x ∷ z) (filter_both p q xs)
              | false ↦ filter_both p q xs
            ]
        | false ↦
            elim (p x) as (λ c. filter p (filter q xs) ≡ cond (c && false) (x ∷ filter (λ y. p y && q y) xs) (filter (λ y. p y && q y) xs)) [
              | true ↦ filter_both p q xs
              | false ↦ filter_both p q xs
            ]
      ]

  pub filter_same : (p q : A → Bool) → ((x : A) → p x ≡ q x) → (xs : List A) → filter p xs ≡ filter q xs
  filter_same p q h [] = refl
  filter_same p q h (x ∷ xs) = ap (λ b. cond b (x ∷ filter p xs) (filter p xs)) (h x) ∙ ap (λ z. cond (q x) (x ∷ z) z) (filter_same p q h xs)

module _ {Site Row Transfer : Type 0} {engine : Engine Site Row Transfer} {conditions : Conditions Site Transfer} (basics : SiteLaws engine conditions) where
  open engine use {to, row_key}

  -- from a later moment on is from an earlier one on
  pub later_from : (from to : ℕ) → from ≤ to → (r : Row) → (is_from engine to r && is_from engine from r) ≡ is_from engine to r
  later_from from to l r =
      elim (is_before engine from r) as (λ b. is_before engine from r ≡ b → (is_from engine to r && not b) ≡ is_from engine to r) [
        | true ↦ λ e. let n : (row_key r).at < from = ltb-true (row_key r).at from e in let t : is_before engine to r ≡ true = lt-ltb (row_key r).at to (omega arith) in rw t refl
        | false ↦ λ e. elim (is_before engine to r) as (λ b. (not b && true) ≡ not b) [ true ↦ refl | false ↦ refl ]
      ] refl

  -- rows from a moment on, and of these from a later one
  pub from_later : (from to : ℕ) → from ≤ to → (xs : List Row) → filter (is_from engine to) (filter (is_from engine from) xs) ≡ filter (is_from engine to) xs
  from_later from to l xs = filter_both (is_from engine to) (is_from engine from) xs ∙ filter_same (λ r. is_from engine to r && is_from engine from r) (is_from engine to) (later_from from to l) xs

  -- rows none of which is from before a moment
  pub all_from : (moment : ℕ) (xs : List Row) → All (λ r. is_before engine moment r ≡ false) xs → filter (is_from engine moment) xs ≡ xs
  all_from moment [] h = refl
  all_from moment (x ∷ xs) h =
      ap (λ b. cond (not b) (x ∷ filter (is_from engine moment) xs) (filter (is_from engine moment) xs)) (All-head (λ r. is_before engine moment r ≡ false) x xs h)
      ∙ ap (λ z. x ∷ z) (all_from moment xs (All-tail (λ r. is_before engine moment r ≡ false) x xs h))
