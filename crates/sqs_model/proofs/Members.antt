-- What is one of a list, and what one of a list came from.
use Rattle.std.specs.Prelude.{All, Bool, Contains, List, Some, [], cond, false, filter, find, flat_map, length, map, slice_index_or, suc, true, zero, ℕ, ◌+◌, ◌++◌, ◌<◌, ◌==◌, ◌∷◌, ◌≡◌, ◌≤◌, ◌⊎◌}
use Rattle.std.proofs.Common.{ap, arith, inl, inr, refl, subst, sym, ◌∙◌}
use Rattle.std.proofs.lemmas.List.Elements.{All-cons, All-head, All-nil, All-tail}
use Rattle.std.proofs.lemmas.Bool.{eq-eqb, ne_eqb}
pub use Rattle.sim_engine.specs.Members.{Each, In}
pub use Rattle.sim_engine.proofs.Members.{all_each}
use Rattle.sqs_model.specs.Progress.{Ascends}

in_at : {A : Type 0} (xs : List A) (k : ℕ) (y : A) → k < length xs → slice_index_or xs k y ≡ y → In xs y
in_at [] k y l e = absurd (omega arith)
in_at (x ∷ xs) zero y l e = inl e
in_at (x ∷ xs) (suc k) y l e = inr (in_at xs k y (omega arith) e)

pub in_contains : {A : Type 0} (xs : List A) (y : A) → Contains xs y → In xs y
in_contains xs y c = in_at xs c.0 y c.1 c.2

pub contains_in : {A : Type 0} (xs : List A) (y : A) → In xs y → Contains xs y
contains_in [] y h = absurd h
contains_in (x ∷ xs) y (inl e) = (0, omega arith, e)
contains_in (x ∷ xs) y (inr h) = let c : Contains xs y = contains_in xs y h in (suc c.0, omega (arith, c.1), c.2)

pub in_append : {A : Type 0} (xs ys : List A) (z : A) → In (xs ++ ys) z → In xs z ⊎ In ys z
in_append [] ys z h = inr h
in_append (x ∷ xs) ys z (inl e) = inl (inl e)
in_append (x ∷ xs) ys z (inr h) = elim (in_append xs ys z h) as (λ _. ((x ≡ z) ⊎ In xs z) ⊎ In ys z) [ inl k ↦ inl (inr k) | inr k ↦ inr k ]

-- what something made of a list's elements came from
pub record From {A : Type 0} (xs : List A) (P : A → Type 0) : Type 0 where
  pub one : A
  pub within : In xs one
  pub gives : P one

abbrev from_rest : {A : Type 0} (x : A) (xs : List A) (P : A → Type 0) → From xs P → From (x ∷ xs) P
from_rest x xs P f = record { one = f.one; within = inr f.within; gives = f.gives }

pub in_map : {A B : Type 0} (f : A → B) (xs : List A) (z : B) → In (map f xs) z → From xs (λ x. f x ≡ z)
in_map f [] z h = elim h [ ]
in_map f (x ∷ xs) z (inl e) = record { one = x; within = inl refl; gives = e }
in_map f (x ∷ xs) z (inr h) = from_rest x xs (λ x. f x ≡ z) (in_map f xs z h)

pub in_flat : {A B : Type 0} (f : A → List B) (xs : List A) (z : B) → In (flat_map f xs) z → From xs (λ x. In (f x) z)
in_flat f [] z h = elim h [ ]
in_flat f (x ∷ xs) z h =
    elim (in_append (f x) (flat_map f xs) z h) as (λ _. From (x ∷ xs) (λ x. In (f x) z)) [
      | inl k ↦ record { one = x; within = inl refl; gives = k }
      | inr k ↦ from_rest x xs (λ x. In (f x) z) (in_flat f xs z k)
    ]

-- one of a list that has a thing is found, by some test
pub in_found : {A : Type 0} (p : A → Bool) (xs : List A) (y : A) → In xs y → p y ≡ true → From xs (λ x. find p xs ≡ Some x)
in_found p [] y h t = elim h [ ]
in_found p (x ∷ xs) y (inl e) t = let u : p x ≡ true = rw e t in record { one = x; within = inl refl; gives = rw u refl }
in_found p (x ∷ xs) y (inr h) t =
    elim (p x) as (λ b. From (x ∷ xs) (λ z. cond b (Some x) (find p xs) ≡ Some z)) [
      | true ↦ record { one = x; within = inl refl; gives = refl }
      | false ↦ from_rest x xs (λ z. find p xs ≡ Some z) (in_found p xs y h t)
    ]

-- where numbers ascend, one of a list is the first of its number
in_ascends : {A : Type 0} (number : A → ℕ) (n : ℕ) (xs : List A) (y : A) → Ascends number n xs → In xs y → n ≤ number y
in_ascends number n [] y a h = elim h [ ]
in_ascends number n (x ∷ xs) y a (inl e) = let k : n ≤ number x = a.0 in rw e at k
in_ascends number n (x ∷ xs) y a (inr h) =
    let k : n ≤ number x = a.0 in let l : number x + 1 ≤ number y = in_ascends number (number x + 1) xs y a.1 h in omega arith

pub found_by_number :
    {A : Type 0} (number : A → ℕ) (n : ℕ) (xs : List A) (y : A) → Ascends number n xs → In xs y
    → find (λ x. number x == number y) xs ≡ Some y
found_by_number number n [] y a h = elim h [ ]
found_by_number number n (x ∷ xs) y a (inl e) = rw (e, eq-eqb (number y) (number y) refl) refl
found_by_number number n (x ∷ xs) y a (inr h) =
    let l : number x + 1 ≤ number y = in_ascends number (number x + 1) xs y a.1 h in
    rw (ne_eqb (number x) (number y) (λ (k : number x ≡ number y). absurd (omega arith))) (found_by_number number (number x + 1) xs y a.1 h)

-- what is one of a list made of others
pub in_left : {A : Type 0} (xs ys : List A) (z : A) → In xs z → In (xs ++ ys) z
in_left [] ys z h = absurd h
in_left (x ∷ xs) ys z (inl e) = inl e
in_left (x ∷ xs) ys z (inr h) = inr (in_left xs ys z h)

pub in_right : {A : Type 0} (xs ys : List A) (z : A) → In ys z → In (xs ++ ys) z
in_right [] ys z h = h
in_right (x ∷ xs) ys z h = inr (in_right xs ys z h)

pub into_flat : {A B : Type 0} (f : A → List B) (xs : List A) (x : A) (z : B) → In xs x → In (f x) z → In (flat_map f xs) z
into_flat f [] x z h k = absurd h
into_flat f (y ∷ ys) x z (inl e) k = in_left (f y) (flat_map f ys) z (subst (λ w. In (f w) z) (sym e) k)
into_flat f (y ∷ ys) x z (inr h) k = in_right (f y) (flat_map f ys) z (into_flat f ys x z h k)

pub into_map : {A B : Type 0} (f : A → B) (xs : List A) (x : A) → In xs x → In (map f xs) (f x)
into_map f [] x h = absurd h
into_map f (y ∷ ys) x (inl e) = inl (ap f e)
into_map f (y ∷ ys) x (inr h) = inr (into_map f ys x h)

pub into_filter : {A : Type 0} (p : A → Bool) (xs : List A) (x : A) → In xs x → p x ≡ true → In (filter p xs) x
into_filter p [] x h t = absurd h
into_filter p (y ∷ ys) x (inl e) t = let u : p y ≡ true = ap p e ∙ t in subst (λ b. In (cond b (y ∷ filter p ys) (filter p ys)) x) (sym u) (inl e)
into_filter p (y ∷ ys) x (inr h) t =
    let i : In (filter p ys) x = into_filter p ys x h t in
    elim (p y) as (λ b. In (cond b (y ∷ filter p ys) (filter p ys)) x) [ true ↦ inr i | false ↦ i ]

-- each of a list is one of it
pub all_in : {A : Type 0} (P : A → Type 0) (xs : List A) → ((x : A) → In xs x → P x) → All P xs
all_in P [] f = All-nil P
all_in P (x ∷ xs) f = All-cons P x xs (f x (inl refl)) (all_in P xs (λ y h. f y (inr h)))

pub of_all : {A : Type 0} (P : A → Type 0) (xs : List A) (x : A) → All P xs → In xs x → P x
of_all P [] x a h = absurd h
of_all P (y ∷ ys) x a (inl e) = subst P e (All-head P y ys a)
of_all P (y ∷ ys) x a (inr h) = of_all P ys x (All-tail P y ys a) h
