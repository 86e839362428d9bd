-- Lists put in order: another order of the same members gives the same, and the first is the least.
use Rattle.std.proofs.Common.{subst, ◌≡◌, ℕ, zero, suc, ◌<◌, ◌∙◌, Bool, true, false, not, List, [], ◌∷◌, Some, refl, ap, sym, if◌then◌else◌, length, get_or, set, map, slice_index_or, arith}
use Rattle.std.proofs.lemmas.List.Sorted.{IsPermutation-keeps, IsPermutation-map}
use Rattle.std.specs.BinaryHeap.{IsUpperBound}
use Rattle.std.specs.Cmp.{IsTotalOrder}
use Rattle.std.specs.List.{swap}
use Rattle.std.specs.List.Sorted.{IsPermutation}
use Rattle.std.specs.declared.cmp.Ordering.{Ordering}
use Rattle.std.specs.Ordering.{is_lt, is_eq}
use Rattle.sim_clock.specs.Order.{inserted_by, least_by, sorted_by, IsBefore, IsInOrder}
use Rattle.sim_clock.proofs.Places.{least_in_order}
use Rattle.sim_clock.proofs.Inserted.{before_inserted, exactly, inserted_swap, ordered_inserted}

module _ {A : Type 0} {R : A → A → Ordering} (total : IsTotalOrder R) (tied : (x y : A) → is_eq (R x y) ≡ true → x ≡ y) where
  turned_by :
      (x y : A) (zs : List A) (b : Bool) → is_eq (R x y) ≡ b → inserted_by R x (inserted_by R y zs) ≡ inserted_by R y (inserted_by R x zs)
  turned_by x y zs true e = let t : x ≡ y = tied x y e in rw t refl
  turned_by x y zs false e = inserted_swap total x y zs e

  turned : (x y : A) (zs : List A) → sorted_by R (x ∷ y ∷ zs) ≡ sorted_by R (y ∷ x ∷ zs)
  turned x y zs = turned_by x y (sorted_by R zs) _ refl

  to_front : (xs : List A) (j : ℕ) (x d : A) → j < length xs → sorted_by R (x ∷ xs) ≡ sorted_by R (get_or xs j d ∷ set xs j x)
  to_front [] j x d h = absurd (omega arith)
  to_front (y ∷ ys) zero x d h = turned x y ys
  to_front (y ∷ ys) (suc j) x d h =
      turned x y ys ∙ ap (inserted_by R y) (to_front ys j x d (omega arith)) ∙ turned y (get_or ys j d) (set ys j x)

  exchanged :
      (xs : List A) (i j : ℕ) (d : A) → i < length xs → j < length xs
      → sorted_by R xs ≡ sorted_by R (set (set xs i (get_or xs j d)) j (get_or xs i d))
  exchanged [] i j d h k = absurd (omega arith)
  exchanged (x ∷ xs) zero zero d h k = refl
  exchanged (x ∷ xs) zero (suc j) d h k = to_front xs j x d (omega arith)
  exchanged (x ∷ xs) (suc i) zero d h k = to_front xs i x d (omega arith)
  exchanged (x ∷ xs) (suc i) (suc j) d h k = ap (inserted_by R x) (exchanged xs i j d (omega arith) (omega arith))

  swapped : (xs : List A) (i j : ℕ) → i < length xs → j < length xs → sorted_by R xs ≡ sorted_by R (swap xs i j)
  swapped [] i j h k = refl
  swapped (x ∷ xs) i j h k = exchanged (x ∷ xs) i j x h k

  -- two orders of the same members are put in order alike
  sorted_permutation : (xs ys : List A) → IsPermutation xs ys → sorted_by R xs ≡ sorted_by R ys
  sorted_permutation xs =
      IsPermutation-keeps xs (λ l. sorted_by R xs ≡ sorted_by R l) refl (λ l i j h k e. e ∙ swapped l i j h k)

  -- what is put in order is in order
  sorted_in_order : (xs : List A) → IsInOrder R (sorted_by R xs)
  sorted_in_order [] = tt
  sorted_in_order (x ∷ xs) = ordered_inserted total x (sorted_by R xs) (sorted_in_order xs)

  neither_by : (x y : A) (b : Bool) → is_eq (R x y) ≡ b → is_lt (R x y) ≡ false → is_lt (R y x) ≡ false → x ≡ y
  neither_by x y true e h k = tied x y e
  neither_by x y false e h k = let n : is_lt (R y x) ≡ not (is_lt (R x y)) = exactly total x y e in cc

  front_by :
      (x y : A) (ys : List A) (b : Bool) → is_lt (R x y) ≡ b → is_lt (R y x) ≡ false
      → (x ≡ y → inserted_by R x ys ≡ x ∷ ys) → (if b then x ∷ (y ∷ ys) else y ∷ inserted_by R x ys) ≡ x ∷ (y ∷ ys)
  front_by x y ys true e h k = refl
  front_by x y ys false e h k = let same : x ≡ y = neither_by x y _ refl e h in rw (k same, same) refl

  -- one that none comes before goes to the front
  inserted_front : (x : A) (ys : List A) → IsBefore R x ys → IsInOrder R ys → inserted_by R x ys ≡ x ∷ ys
  inserted_front x [] h o = refl
  inserted_front x (y ∷ ys) h o =
      front_by x y ys _ refl h (λ same. inserted_front x ys (subst (λ z. IsBefore R z ys) (sym same) o.0) o.1)

  module _ {B : Type 0} (key : B → A) where
    before_sorted : (x : B) (ys : List B) → IsUpperBound (λ a b. R (key b) (key a)) x ys → IsBefore R (key x) (sorted_by R (map key ys))
    before_sorted x [] h = tt
    before_sorted x (y ∷ ys) h = before_inserted total (key y) (key x) (sorted_by R (map key ys)) h.0 (before_sorted x ys h.1)

    -- one that no other comes before goes first
    sorted_first :
        (x : B) (ys : List B) → IsUpperBound (λ a b. R (key b) (key a)) x ys
        → sorted_by R (map key (x ∷ ys)) ≡ key x ∷ sorted_by R (map key ys)
    sorted_first x ys h = inserted_front (key x) _ (before_sorted x ys h) (sorted_in_order (map key ys))

    -- one that leaves, and that no other comes before, was the first
    pub sorted_popped :
        (xs : List B) (x : B) (ys : List B) → IsPermutation xs (x ∷ ys) → IsUpperBound (λ a b. R (key b) (key a)) x ys
        → sorted_by R (map key xs) ≡ key x ∷ sorted_by R (map key ys)
    sorted_popped xs x ys p h = sorted_permutation _ _ (IsPermutation-map key xs (x ∷ ys) p) ∙ sorted_first x ys h

    -- one that joins is at its place
    pub sorted_pushed :
        (x : B) (xs ys : List B) → IsPermutation (x ∷ xs) ys
        → sorted_by R (map key ys) ≡ inserted_by R (key x) (sorted_by R (map key xs))
    sorted_pushed x xs ys p = sym (sorted_permutation _ _ (IsPermutation-map key (x ∷ xs) ys p))

    least_by_first : (x : B) (ys : List B) → IsUpperBound (λ a b. R (key b) (key a)) x ys → least_by R (sorted_by R (map key (x ∷ ys))) ≡ Some (key x)
    least_by_first x ys h =
        ap (least_by R) (sorted_first x ys h)
        ∙ least_in_order R (key x) (sorted_by R (map key ys)) (before_sorted x ys h, sorted_in_order (map key ys))

    -- the first of a list, before which no other comes, is the least
    pub sorted_least :
        (x : B) (xs : List B) → 0 < length xs → x ≡ slice_index_or xs 0 x → IsUpperBound (λ a b. R (key b) (key a)) x xs
        → least_by R (sorted_by R (map key xs)) ≡ Some (key x)
    sorted_least x [] some e h = absurd (omega arith)
    sorted_least x (y ∷ ys) some e h = subst (λ z. least_by R (sorted_by R (map key (z ∷ ys))) ≡ Some (key x)) e (least_by_first x ys h.1)
