-- Lists by place.
use Rattle.std.specs.List.{range_with_len}
use Rattle.std.specs.Prelude.{All, List, Result, [], false, get_or, map, set, suc, zero, ℕ, ◌++◌, ◌+◌, ◌<◌, ◌==◌, ◌∷◌, ◌≡◌, ◌≤◌}
use Rattle.std.proofs.Common.{ap, arith, refl, ◌∙◌}
use Rattle.std.proofs.lemmas.Bool.{ne_eqb}
use Rattle.std.proofs.lemmas.List.FromFn.{get_or-map-range_with_len}
use Rattle.std.proofs.lemmas.List.Elements.{All-head, All-tail}
use Rattle.sim_clock.specs.declared.refusal.Refusal.{Refusal}
use Rattle.sim_windows.specs.Meeting.{AreReached, IsReached, delivered_each}
use Rattle.sim_engine.specs.World.{delivered}
use Rattle.sim_engine.specs.Engine.{Engine}
use Rattle.sim_engine.specs.Laws.{Conditions, SiteLaws}

module _ {A : Type 0} where
  pub at_place : (f : ℕ → A) (n p : ℕ) (d : A) → p < n → get_or (map f (range_with_len 0 n)) p d ≡ f p
  at_place f n p d l = get_or-map-range_with_len f 0 n p p d l (omega arith)

  pub same_from : (f g : ℕ → A) (a n : ℕ) → ((p : ℕ) → a ≤ p → p < a + n → f p ≡ g p) → map f (range_with_len a n) ≡ map g (range_with_len a n)
  same_from f g a zero h = refl
  same_from f g a (suc n) h =
      ap (λ x. x ∷ map f (range_with_len (a + 1) n)) (h a (omega arith) (omega arith)) ∙ ap (λ xs. g a ∷ xs) (same_from f g (a + 1) n (λ p l k. h p (omega arith) (omega arith)))

  -- one put in its place
  pub set_from : (f g : ℕ → A) (x : A) (a n i p : ℕ) → i < n → a + i ≡ p → x ≡ g p → ((q : ℕ) → (p == q) ≡ false → f q ≡ g q) → set (map f (range_with_len a n)) i x ≡ map g (range_with_len a n)
  set_from f g x a zero i p l e h o = absurd (omega arith)
  set_from f g x a (suc n) zero p l e h o =
      let at : p ≡ a = omega arith in
      ap (λ y. y ∷ map f (range_with_len (a + 1) n)) (h ∙ ap g at)
      ∙ ap (λ xs. g a ∷ xs) (same_from f g (a + 1) n (λ q k m. o q (ne_eqb p q (λ (z : p ≡ q). absurd (omega arith)))))
  set_from f g x a (suc n) (suc i) p l e h o =
      ap (λ y. y ∷ set (map f (range_with_len (a + 1) n)) i x) (o a (ne_eqb p a (λ (z : p ≡ a). absurd (omega arith))))
      ∙ ap (λ xs. g a ∷ xs) (set_from f g x (a + 1) n i p (omega arith) (omega arith) h o)

  pub over : {B : Type 0} (h : A → B) (f : ℕ → A) (a n : ℕ) → map h (map f (range_with_len a n)) ≡ map (λ p. h (f p)) (range_with_len a n)
  over h f a zero = refl
  over h f a (suc n) = ap (λ xs. h (f a) ∷ xs) (over h f (a + 1) n)

-- what stands at a place, or else the first, is below a bound that all are below
pub below_all : (xs : List ℕ) (k n : ℕ) → 1 ≤ k → All (λ p. p < k) xs → get_or xs n 0 < k
below_all [] k n l h = omega arith
below_all (x ∷ xs) k zero l h = All-head (λ p. p < k) x xs h
below_all (x ∷ xs) k (suc n) l h = below_all xs k n l (All-tail (λ p. p < k) x xs h)

pub map_push : {A B : Type 0} (f : A → B) (xs : List A) (x : A) → map f (xs ++ x ∷ []) ≡ map f xs ++ f x ∷ []
map_push f [] x = refl
map_push f (y ∷ ys) x = ap (λ z. f y ∷ z) (map_push f ys x)

module _ {Site Row Transfer : Type 0} {engine : Engine Site Row Transfer} {conditions : Conditions Site Transfer} (basics : SiteLaws engine conditions) where
  pub delivered_places : (f : ℕ → List Transfer) (g : ℕ → List Site) (a n : ℕ) → delivered_each engine (map f (range_with_len a n)) (map g (range_with_len a n)) ≡ map (λ p. delivered engine (f p) (g p)) (range_with_len a n)
  delivered_places f g a zero = refl
  delivered_places f g a (suc n) = ap (λ xs. delivered engine (f a) (g a) ∷ xs) (delivered_places f g (a + 1) n)

  pub reached_places : (f : ℕ → Result (List Site) Refusal) (g : ℕ → List Transfer) (a n : ℕ) → ((p : ℕ) → a ≤ p → p < a + n → IsReached engine conditions (f p) (g p)) → AreReached engine conditions (map f (range_with_len a n)) (map g (range_with_len a n))
  reached_places f g a zero h = tt
  reached_places f g a (suc n) h = (h a (omega arith) (omega arith), reached_places f g (a + 1) n (λ p l k. h p (omega arith) (omega arith)))
