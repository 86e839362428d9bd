-- The merge of several lists has each member as often as they have together, and is in order where they are.
use Rattle.std.specs.Cmp.{IsTotalOrder}
use Rattle.std.specs.Ordering.{is_lt}
use Rattle.std.specs.Prelude.{All, Bool, List, [], count_by, false, if◌then◌else◌, sum_by, true, ℕ, ◌+◌, ◌∷◌, ◌≡◌}
use Rattle.std.specs.declared.cmp.Ordering.{Ordering}
use Rattle.std.proofs.Common.{arith, cond, refl}
use Rattle.std.proofs.lemmas.List.Elements.{All-head, All-tail}
use Rattle.std.proofs.lemmas.List.Sums.{sum_by-cons}
use Rattle.sim_clock.specs.Order.{IsBefore, IsInOrder}
use Rattle.sim_clock.proofs.Orderings.{less_not_back}
use Rattle.sim_engine.specs.Merge.{IsMergeOf, merged, merged_all, merged_one}

-- 1. how many members pass a test
module _ {A : Type 0} (picks : A → Bool) where
  abbrev pub ticks : A → ℕ
  ticks x = cond (picks x) 1 0

  pub count_cons : (x : A) (xs : List A) → count_by picks (x ∷ xs) ≡ ticks x + count_by picks xs
  count_cons x xs = sum_by-cons ticks x xs

module _ {A : Type 0} (R : A → A → Ordering) (picks : A → Bool) where
  count_one :
      (x : A) (n : ℕ) (rest : List A → List A) → ((ys : List A) → count_by picks (rest ys) ≡ n + count_by picks ys)
      → (ys : List A) → count_by picks (merged_one R x rest ys) ≡ ticks picks x + n + count_by picks ys
  count_one x n rest h [] = omega (arith, count_cons picks x (rest []), h [])
  count_one x n rest h (y ∷ ys) =
      elim (is_lt (R y x)) as (λ b. count_by picks (if b then y ∷ merged_one R x rest ys else x ∷ rest (y ∷ ys)) ≡ ticks picks x + n + count_by picks (y ∷ ys)) [
        | true ↦ omega (arith, count_cons picks y (merged_one R x rest ys), count_cons picks y ys, count_one x n rest h ys)
        | false ↦ omega (arith, count_cons picks x (rest (y ∷ ys)), h (y ∷ ys))
      ]

  count_merged : (xs ys : List A) → count_by picks (merged R xs ys) ≡ count_by picks xs + count_by picks ys
  count_merged [] ys = omega arith
  count_merged (x ∷ xs) ys = omega (arith, count_one x (count_by picks xs) (merged R xs) (count_merged xs) ys, count_cons picks x xs)

  pub count_all : (lists : List (List A)) → count_by picks (merged_all R lists) ≡ sum_by (count_by picks) lists
  count_all [] = refl
  count_all (l ∷ ls) = omega (arith, count_merged l (merged_all R ls), count_all ls, sum_by-cons (count_by picks) l ls)

module _ {A : Type 0} {R : A → A → Ordering} (total : IsTotalOrder R) where
  -- one that comes before another doesn't come after it
  pub later : (x y : A) → is_lt (R y x) ≡ true → is_lt (R x y) ≡ false
  later x y h = rw (total.antisymm x y) (less_not_back (R y x) h)

  before_one : (z x : A) (rest : List A → List A) (ys : List A) → is_lt (R x z) ≡ false → IsBefore R z ys → IsBefore R z (merged_one R x rest ys)
  before_one z x rest [] h k = h
  before_one z x rest (y ∷ ys) h k =
      elim (is_lt (R y x)) as (λ b. IsBefore R z (if b then y ∷ merged_one R x rest ys else x ∷ rest (y ∷ ys))) [ true ↦ k | false ↦ h ]

  before_merged : (z : A) (xs ys : List A) → IsBefore R z xs → IsBefore R z ys → IsBefore R z (merged R xs ys)
  before_merged z [] ys h k = k
  before_merged z (x ∷ xs) ys h k = before_one z x (merged R xs) ys h k

  order_one :
      (x : A) (xs : List A) → IsBefore R x xs → ((ys : List A) → IsInOrder R ys → IsInOrder R (merged R xs ys))
      → (ys : List A) → IsInOrder R ys → IsInOrder R (merged_one R x (merged R xs) ys)
  order_one x xs b f [] h = (before_merged x xs [] b tt, f [] tt)
  order_one x xs b f (y ∷ ys) h =
      elim (is_lt (R y x)) as (λ t. is_lt (R y x) ≡ t → IsInOrder R (if t then y ∷ merged_one R x (merged R xs) ys else x ∷ merged R xs (y ∷ ys))) [
        | true ↦ λ e. (before_one y x (merged R xs) ys (later x y e) h.0, order_one x xs b f ys h.1)
        | false ↦ λ e. (before_merged x xs (y ∷ ys) b e, f (y ∷ ys) h)
      ] refl

  order_merged : (xs ys : List A) → IsInOrder R xs → IsInOrder R ys → IsInOrder R (merged R xs ys)
  order_merged [] ys h k = k
  order_merged (x ∷ xs) ys h k = order_one x xs h.0 (λ zs o. order_merged xs zs h.1 o) ys k

  pub order_all : (lists : List (List A)) → All (IsInOrder R) lists → IsInOrder R (merged_all R lists)
  order_all [] h = tt
  order_all (l ∷ ls) h = order_merged l (merged_all R ls) (All-head (IsInOrder R) l ls h) (order_all ls (All-tail (IsInOrder R) l ls h))

  -- the merge of some lists is a merge of them
  pub is_merge : (lists : List (List A)) → IsMergeOf R lists (merged_all R lists)
  is_merge lists = record { each = λ picks. count_all R picks lists; in_order = order_all lists }
