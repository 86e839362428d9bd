-- Rows of several lists in one: by key and site, those of one key and site in the order that they had.
use Rattle.std.specs.Ordering.{is_lt, nat_cmp, on, then_cmp}
use Rattle.std.specs.Prelude.{All, Bool, List, [], count_by, if◌then◌else◌, sum_by, ◌∷◌, ◌≡◌}
use Rattle.std.specs.declared.cmp.Ordering.{Ordering}
use Rattle.sim_clock.specs.Order.{IsInOrder, key_cmp}
use Rattle.sim_engine.specs.Engine.{Engine}

-- one before the first of a list that does not come before it, and then the rest
abbrev pub merged_one : {A : Type 0} → (A → A → Ordering) → A → (List A → List A) → List A → List A
merged_one R x rest [] = x ∷ rest []
merged_one R x rest (y ∷ ys) = if is_lt (R y x) then y ∷ merged_one R x rest ys else x ∷ rest (y ∷ ys)

-- two lists merged: always the lesser of their first members; if they tie, that of the first list
abbrev pub merged : {A : Type 0} → (A → A → Ordering) → List A → List A → List A
merged R [] ys = ys
merged R (x ∷ xs) ys = merged_one R x (merged R xs) ys

-- several lists in one
abbrev pub merged_all : {A : Type 0} → (A → A → Ordering) → List (List A) → List A
merged_all R [] = []
merged_all R (l ∷ ls) = merged R l (merged_all R ls)

-- a merge of some lists: it has each member, by any test, as often as they have it together, and is in order if they
-- are
pub record IsMergeOf {A : Type 0} (R : A → A → Ordering) (lists : List (List A)) (xs : List A) : Type 0 where
  pub each : (picks : A → Bool) → count_by picks xs ≡ sum_by (count_by picks) lists
  pub in_order : All (IsInOrder R) lists → IsInOrder R xs

module _ {Site Row Transfer : Type 0} (engine : Engine Site Row Transfer) where
  open engine use {row_key, row_site}

  -- rows compare by the key of their handling, then by the site at which it was
  abbrev pub row_cmp : Row → Row → Ordering
  row_cmp = then_cmp (on row_key key_cmp) (on row_site nat_cmp)

  -- lists of rows merged are a merge of them
  abbrev pub MergingKeepsOrder : Type 0
  MergingKeepsOrder = (lists : List (List Row)) → IsMergeOf row_cmp lists (merged_all row_cmp lists)
