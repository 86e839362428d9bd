-- Sums over lists, and what stays true of a list without one of it, with a change of one, or with one more.
use Rattle.std.specs.Prelude.{All, Bool, List, None, Some, [], cond, drop, false, find, flat_map, map, true, ℕ, ◌+◌, ◌++◌, ◌<◌, ◌∷◌, ◌≡◌, ◌≤◌}
use Rattle.std.proofs.Common.{ap, arith, refl}
use Rattle.std.proofs.lemmas.List.Elements.{All-cons, All-head, All-tail}
use Rattle.sim_clock.specs.Firsts.{changed, without}
use Rattle.sqs_model.specs.Progress.{Ascends}
pub use Rattle.sim_engine.proofs.Counts.{tick, tick_past, tick_now, tick_less, total, count_is}

pub total_append : {A : Type 0} (f : A → ℕ) (xs ys : List A) → total f (xs ++ ys) ≡ total f xs + total f ys
total_append f [] ys = omega arith
total_append f (x ∷ xs) ys = omega (arith, total_append f xs ys)

pub total_push : {A : Type 0} (f : A → ℕ) (xs : List A) (x : A) → total f (xs ++ x ∷ []) ≡ total f xs + f x
total_push f xs x = omega (arith, total_append f xs (x ∷ []))

pub total_drop : {A : Type 0} (f : A → ℕ) (xs : List A) → total f (drop 1 xs) ≤ total f xs
total_drop f [] = omega arith
total_drop f (x ∷ xs) = omega arith

pub total_map : {A B : Type 0} (f : B → ℕ) (g : A → B) (xs : List A) → total f (map g xs) ≡ total (λ x. f (g x)) xs
total_map f g [] = refl
total_map f g (x ∷ xs) = omega (arith, total_map f g xs)

pub total_flat : {A B : Type 0} (f : B → ℕ) (g : A → List B) (xs : List A) → total f (flat_map g xs) ≡ total (λ x. total f (g x)) xs
total_flat f g [] = refl
total_flat f g (x ∷ xs) = omega (arith, total_append f (g x) (flat_map g xs), total_flat f g xs)

pub total_same : {A : Type 0} (f g : A → ℕ) → ((x : A) → f x ≡ g x) → (xs : List A) → total f xs ≡ total g xs
total_same f g h [] = refl
total_same f g h (x ∷ xs) = omega (arith, h x, total_same f g h xs)

module _ {A : Type 0} (p : A → Bool) where
  -- of the first that a test picks
  pub find_picked : (xs : List A) (y : A) → find p xs ≡ Some y → p y ≡ true
  find_picked [] y h = cc
  find_picked (x ∷ xs) y h =
      elim (p x) as (λ b. p x ≡ b → cond b (Some x) (find p xs) ≡ Some y → p y ≡ true) [
        | true ↦ λ e k. let s : x ≡ y = cc in rw s at e
        | false ↦ λ e k. find_picked xs y k
      ] refl h

  pub find_all : (P : A → Type 0) (xs : List A) (y : A) → All P xs → find p xs ≡ Some y → P y
  find_all P [] y a h = cc
  find_all P (x ∷ xs) y a h =
      elim (p x) as (λ b. cond b (Some x) (find p xs) ≡ Some y → P y) [
        | true ↦ λ k. let s : x ≡ y = cc in rw s at (All-head P x xs a)
        | false ↦ λ k. find_all P xs y (All-tail P x xs a) k
      ] h

  -- the sum without it, and with a change of it
  pub total_without : (f : A → ℕ) (xs : List A) (y : A) → find p xs ≡ Some y → total f (without p xs) + f y ≡ total f xs
  total_without f [] y h = cc
  total_without f (x ∷ xs) y h =
      elim (p x) as (λ b. cond b (Some x) (find p xs) ≡ Some y → total f (cond b xs (x ∷ without p xs)) + f y ≡ f x + total f xs) [
        | true ↦ λ k. let s : x ≡ y = cc in let t : f x ≡ f y = ap f s in omega arith
        | false ↦ λ k. omega (arith, total_without f xs y k)
      ] h

  pub less_without : (f : A → ℕ) (xs : List A) → total f (without p xs) ≤ total f xs
  less_without f [] = omega arith
  less_without f (x ∷ xs) =
      elim (p x) as (λ b. total f (cond b xs (x ∷ without p xs)) ≤ f x + total f xs) [
        | true ↦ omega arith
        | false ↦ omega (arith, less_without f xs)
      ]

  pub total_changed : (f : A → ℕ) (g : A → A) (xs : List A) (y : A) → find p xs ≡ Some y → total f (changed p g xs) + f y ≡ total f xs + f (g y)
  total_changed f g [] y h = cc
  total_changed f g (x ∷ xs) y h =
      elim (p x) as (λ b. cond b (Some x) (find p xs) ≡ Some y → total f (cond b (g x ∷ xs) (x ∷ changed p g xs)) + f y ≡ (f x + total f xs) + f (g y)) [
        | true ↦ λ k. let s : x ≡ y = cc in let t : f x ≡ f y = ap f s in let u : f (g x) ≡ f (g y) = ap (λ z. f (g z)) s in omega arith
        | false ↦ λ k. omega (arith, total_changed f g xs y k)
      ] h

  pub less_changed : (f : A → ℕ) (g : A → A) → ((x : A) → f (g x) ≤ f x) → (xs : List A) → total f (changed p g xs) ≤ total f xs
  less_changed f g l [] = omega arith
  less_changed f g l (x ∷ xs) =
      elim (p x) as (λ b. total f (cond b (g x ∷ xs) (x ∷ changed p g xs)) ≤ f x + total f xs) [
        | true ↦ omega (arith, l x)
        | false ↦ omega (arith, less_changed f g l xs)
      ]

  pub changed_none : (g : A → A) (xs : List A) → find p xs ≡ None → changed p g xs ≡ xs
  changed_none g [] h = refl
  changed_none g (x ∷ xs) h =
      elim (p x) as (λ b. cond b (Some x) (find p xs) ≡ None → cond b (g x ∷ xs) (x ∷ changed p g xs) ≡ x ∷ xs) [
        | true ↦ λ k. cc
        | false ↦ λ k. ap (λ t. x ∷ t) (changed_none g xs k)
      ] h

  pub find_changed : (g : A → A) (xs : List A) (y : A) → find p xs ≡ Some y → p (g y) ≡ true → find p (changed p g xs) ≡ Some (g y)
  find_changed g [] y h t = cc
  find_changed g (x ∷ xs) y h t =
      elim (p x) as (λ b. p x ≡ b → cond b (Some x) (find p xs) ≡ Some y → find p (cond b (g x ∷ xs) (x ∷ changed p g xs)) ≡ Some (g y)) [
        | true ↦ λ e k. let s : x ≡ y = cc in let u : p (g x) ≡ true = rw s t in rw u (ap (λ z. Some (g z)) s)
        | false ↦ λ e k. rw e (find_changed g xs y k t)
      ] refl h

  -- a change, and then another or its going
  pub without_changed : (g : A → A) → ((x : A) → p (g x) ≡ p x) → (xs : List A) → without p (changed p g xs) ≡ without p xs
  without_changed g s [] = refl
  without_changed g s (x ∷ xs) =
      elim (p x) as (λ b. p x ≡ b → without p (cond b (g x ∷ xs) (x ∷ changed p g xs)) ≡ cond b xs (x ∷ without p xs)) [
        | true ↦ λ e. rw (s x, e) refl
        | false ↦ λ e. rw e (ap (λ t. x ∷ t) (without_changed g s xs))
      ] refl

  pub changed_twice : (g h : A → A) → ((x : A) → p (g x) ≡ p x) → (xs : List A) → changed p h (changed p g xs) ≡ changed p (λ x. h (g x)) xs
  changed_twice g h s [] = refl
  changed_twice g h s (x ∷ xs) =
      elim (p x) as (λ b. p x ≡ b → changed p h (cond b (g x ∷ xs) (x ∷ changed p g xs)) ≡ cond b (h (g x) ∷ xs) (x ∷ changed p (λ x. h (g x)) xs)) [
        | true ↦ λ e. rw (s x, e) refl
        | false ↦ λ e. rw e (ap (λ t. x ∷ t) (changed_twice g h s xs))
      ] refl

  -- what holds of each
  pub all_without : (P : A → Type 0) (xs : List A) → All P xs → All P (without p xs)
  all_without P [] a = a
  all_without P (x ∷ xs) a =
      elim (p x) as (λ b. All P (cond b xs (x ∷ without p xs))) [
        | true ↦ All-tail P x xs a
        | false ↦ All-cons P x (without p xs) (All-head P x xs a) (all_without P xs (All-tail P x xs a))
      ]

  pub all_changed : (P : A → Type 0) (g : A → A) → ((x : A) → P x → P (g x)) → (xs : List A) → All P xs → All P (changed p g xs)
  all_changed P g s [] a = a
  all_changed P g s (x ∷ xs) a =
      elim (p x) as (λ b. All P (cond b (g x ∷ xs) (x ∷ changed p g xs))) [
        | true ↦ All-cons P (g x) xs (s x (All-head P x xs a)) (All-tail P x xs a)
        | false ↦ All-cons P x (changed p g xs) (All-head P x xs a) (all_changed P g s xs (All-tail P x xs a))
      ]

-- numbers that ascend
module _ {A : Type 0} (number : A → ℕ) where
  pub ascends_lower : (m n : ℕ) (xs : List A) → m ≤ n → Ascends number n xs → Ascends number m xs
  ascends_lower m n [] l a = tt
  ascends_lower m n (x ∷ xs) l a = let k : n ≤ number x = a.0 in (omega arith, a.1)

  pub ascends_without : (p : A → Bool) (n : ℕ) (xs : List A) → Ascends number n xs → Ascends number n (without p xs)
  ascends_without p n [] a = tt
  ascends_without p n (x ∷ xs) a =
      let k : n ≤ number x = a.0 in
      elim (p x) as (λ b. Ascends number n (cond b xs (x ∷ without p xs))) [
        | true ↦ ascends_lower n (number x + 1) xs (omega arith) a.1
        | false ↦ (k, ascends_without p (number x + 1) xs a.1)
      ]

  pub ascends_changed :
      (p : A → Bool) (g : A → A) → ((x : A) → p x ≡ true → number (g x) ≡ number x)
      → (n : ℕ) (xs : List A) → Ascends number n xs → Ascends number n (changed p g xs)
  ascends_changed p g s n [] a = tt
  ascends_changed p g s n (x ∷ xs) a =
      elim (p x) as (λ b. p x ≡ b → Ascends number n (cond b (g x ∷ xs) (x ∷ changed p g xs))) [
        | true ↦ λ e. rw (s x e) a
        | false ↦ λ e. (a.0, ascends_changed p g s (number x + 1) xs a.1)
      ] refl

  pub ascends_push : (n : ℕ) (xs : List A) (y : A) → Ascends number n xs → n ≤ number y → All (λ x. number x < number y) xs → Ascends number n (xs ++ y ∷ [])
  ascends_push n [] y a l h = (l, tt)
  ascends_push n (x ∷ xs) y a l h =
      let k : number x < number y = All-head (λ x. number x < number y) x xs h in
      (a.0, ascends_push (number x + 1) xs y a.1 (omega arith) (All-tail (λ x. number x < number y) x xs h))
