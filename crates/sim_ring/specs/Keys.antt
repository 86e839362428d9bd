-- Keys in their order, with one more or one less: which they are, how many are due by a moment, and which is the least.
use Rattle.std.specs.Ordering.{is_lt}
use Rattle.std.specs.Prelude.{List, Some, [], false, if◌then◌else◌, true, ℕ, ◌+◌, ◌<◌, ◌∷◌, ◌≡◌, ◌≤◌, ◌⊎◌}
use Rattle.std.proofs.Common.{ap, arith, inl, inr, refl, ◌∙◌}
use Rattle.sim_clock.specs.declared.key.Key.{Key}
use Rattle.sim_clock.specs.Firsts.{without}
use Rattle.sim_clock.specs.Order.{inserted, key_cmp, key_cmp_total, least, lesser, same_key}
use Rattle.sim_clock.proofs.Least.{key_tied, lesser_swap}
use Rattle.sim_clock.proofs.Orderings.{key_self}
use Rattle.sim_engine.specs.Members.{In, count_due}
use Rattle.sim_engine.proofs.Counts.{count_is, tick, tick_past, total}

-- keys with one more
pub total_inserted : (f : Key → ℕ) (x : Key) (xs : List Key) → total f (inserted x xs) ≡ f x + total f xs
total_inserted f x [] = refl
total_inserted f x (y ∷ ys) =
    elim (is_lt (key_cmp x y)) as (λ b. total f (if b then x ∷ (y ∷ ys) else y ∷ inserted x ys) ≡ f x + (f y + total f ys)) [
      | true ↦ refl
      | false ↦ omega (arith, total_inserted f x ys)
    ]

pub inserted_in : (x : Key) (xs : List Key) (y : Key) → In (inserted x xs) y → (x ≡ y) ⊎ In xs y
inserted_in x [] y h = h
inserted_in x (z ∷ zs) y h =
    elim (is_lt (key_cmp x z)) as (λ b. In (if b then x ∷ (z ∷ zs) else z ∷ inserted x zs) y → (x ≡ y) ⊎ In (z ∷ zs) y) [
      | true ↦ λ i. i
      | false ↦ λ i.
          elim i as (λ _. (x ≡ y) ⊎ In (z ∷ zs) y) [
            | inl e ↦ inr (inl e)
            | inr k ↦ elim (inserted_in x zs y k) as (λ _. (x ≡ y) ⊎ In (z ∷ zs) y) [ inl e ↦ inl e | inr l ↦ inr (inr l) ]
          ]
    ] h

pub due_inserted : (k : Key) (xs : List Key) → least (inserted k xs) ≡ lesser (Some k) (least xs)
due_inserted k [] = refl
due_inserted k (x ∷ xs) =
    elim (is_lt (key_cmp k x)) as (λ b. least (if b then k ∷ (x ∷ xs) else x ∷ inserted k xs) ≡ lesser (Some k) (lesser (Some x) (least xs))) [
      | true ↦ refl
      | false ↦ ap (lesser (Some x)) (due_inserted k xs) ∙ lesser_swap key_cmp_total key_tied x k (least xs)
    ]

-- and with one less
pub total_without :
    (f : Key → ℕ) (key : Key) (xs : List Key) → In xs key → total f (without (same_key key) xs) + f key ≡ total f xs
total_without f key [] i = absurd i
total_without f key (x ∷ xs) (inl e) =
    let t : same_key key x ≡ true = ap (same_key key) e ∙ key_self key in
    let u : f x ≡ f key = ap f e in
    rw t (omega arith)
total_without f key (x ∷ xs) (inr i) =
    elim (same_key key x) as (λ b. same_key key x ≡ b → total f (if b then xs else x ∷ without (same_key key) xs) + f key ≡ f x + total f xs) [
      | true ↦ λ e. let t : key ≡ x = key_tied key x e in let u : f key ≡ f x = ap f t in omega arith
      | false ↦ λ e. omega (arith, total_without f key xs i)
    ] refl

pub without_in : (key : Key) (xs : List Key) (y : Key) → In (without (same_key key) xs) y → In xs y
without_in key [] y h = h
without_in key (x ∷ xs) y h =
    elim (same_key key x) as (λ b. In (if b then xs else x ∷ without (same_key key) xs) y → In (x ∷ xs) y) [
      | true ↦ λ i. inr i
      | false ↦ λ i. elim i as (λ _. In (x ∷ xs) y) [ inl e ↦ inl e | inr k ↦ inr (without_in key xs y k) ]
    ] h

-- a moment's part in how many keys are due by it
abbrev by : ℕ → Key → ℕ
by e k = tick e k.at

-- without one of them its part less is due
pub fewer_due :
    (e : ℕ) (key : Key) (keys : List Key) → In keys key
    → count_due e (without (same_key key) keys) + tick e key.at ≡ count_due e keys
fewer_due e key keys i =
    omega (arith, count_is e keys, count_is e (without (same_key key) keys), total_without (by e) key keys i)

-- one more that is later makes no more due
pub no_more_due :
    (e : ℕ) (key : Key) (keys : List Key) → e < key.at → count_due e (inserted key keys) ≤ count_due e keys
no_more_due e key keys l =
    omega (arith, count_is e keys, count_is e (inserted key keys), total_inserted (by e) key keys, tick_past e key.at l)
