-- What waits may be delivered in the order of keys, and to each partition what goes to it.
use Rattle.std.specs.Cmp.{IsTotalOrder}
use Rattle.std.specs.Ordering.{is_eq, is_lt, on}
use Rattle.std.specs.Prelude.{Bool, List, [], count_by, false, if◌then◌else◌, map, true, ℕ, ◌+◌, ◌==◌, ◌∷◌, ◌≡◌}
use Rattle.std.specs.declared.cmp.Ordering.{Ordering}
use Rattle.std.proofs.Common.{Equal, Greater, Less, ap, arith, refl, sym, true≢false, ◌∙◌}
use Rattle.std.proofs.lemmas.Cmp.{on_total}
use Rattle.sim_clock.specs.Order.{IsInOrder, inserted_by, key_cmp, key_cmp_total}
use Rattle.sim_clock.proofs.Inserted.{before_upto, ordered_inserted}
use Rattle.sim_engine.specs.World.{delivered, delivered_one}
use Rattle.sim_engine.specs.Exchange.{PartsGetSorted, SortingKeepsEach, sorted, sorted_into, to_part}
use Rattle.sim_engine.specs.Parts.{is_of, part_of}
use Rattle.sim_engine.proofs.Merge.{after_first}
use Rattle.sim_engine.proofs.MergedLists.{count_cons}
use Rattle.sim_engine.proofs.Parts.{Differs, goes, map_delivered, part_map}
use Rattle.sim_engine.specs.Members.{Each}
use Rattle.sim_engine.specs.Engine.{Engine}
use Rattle.sim_engine.specs.Laws.{Conditions, SiteLaws}
use Rattle.sim_engine.proofs.Branches.{by_cases}

less_differs : (o : Ordering) → is_lt o ≡ true → is_eq o ≡ false
less_differs Less h = refl
less_differs Equal h = absurd (true≢false (sym h))
less_differs Greater h = refl

module _ {Site Row Transfer : Type 0} {engine : Engine Site Row Transfer} {conditions : Conditions Site Transfer} (basics : SiteLaws engine conditions) where
  open engine use {number, accepted, transfer_key, to}

  abbrev by_key : Transfer → Transfer → Ordering
  by_key = on transfer_key key_cmp

  by_key_total : IsTotalOrder by_key
  by_key_total = on_total transfer_key key_cmp_total

  -- one that comes before the first of a list in order differs from each
  all_differ : (o p : Transfer) (os : List Transfer) → is_lt (by_key o p) ≡ true → Each (λ x. is_lt (by_key x p) ≡ false) os → Each (Differs basics o) os
  all_differ o p [] h k = tt
  all_differ o p (x ∷ xs) h k = (less_differs (by_key o x) (before_upto by_key_total o p x h k.0), all_differ o p xs h k.1)

  delivered_inserted : (o : Transfer) (os : List Transfer) (w : List Site) → IsInOrder by_key os → delivered engine (inserted_by by_key o os) w ≡ map (delivered_one engine o) (delivered engine os w)
  delivered_inserted o [] w h = refl
  delivered_inserted o (p ∷ os) w h =
      elim (is_lt (by_key o p)) as (λ b. is_lt (by_key o p) ≡ b → delivered engine (if b then o ∷ (p ∷ os) else p ∷ inserted_by by_key o os) w ≡ map (delivered_one engine o) (delivered engine (p ∷ os) w)) [
        | true ↦ λ e. sym (map_delivered basics o (p ∷ os) w (less_differs (by_key o p) e, all_differ o p os e (after_first by_key_total p os h.0 h.1)))
        | false ↦ λ e. delivered_inserted o os (map (delivered_one engine p) w) h.1
      ] refl

  sorted_into_delivered : (done os : List Transfer) (w : List Site) → IsInOrder by_key done → delivered engine (sorted_into engine done os) w ≡ delivered engine os (delivered engine done w)
  sorted_into_delivered done [] w h = refl
  sorted_into_delivered done (o ∷ os) w h =
      sorted_into_delivered (inserted_by by_key o done) os w (ordered_inserted by_key_total o done h) ∙ ap (delivered engine os) (delivered_inserted o done w h)

  -- what waits, delivered in the order of keys
  pub sorted_delivered : (os : List Transfer) (w : List Site) → delivered engine (sorted engine os) w ≡ delivered engine os w
  sorted_delivered os w = sorted_into_delivered [] os w tt

  module _ (owner : ℕ → ℕ) where
    -- a transfer that goes to no site of a partition changes none
    not_goes : (p : ℕ) (o : Transfer) (s : Site) (b : Bool) → ((to o) == number s) ≡ b → (owner (to o) == p) ≡ false → is_of engine owner p s ≡ true → (if b then accepted o s else s) ≡ s
    not_goes p o s false e n h = refl
    not_goes p o s true e n h = absurd (true≢false (sym (goes basics owner p o s e h) ∙ n))

    not_map : (p : ℕ) (o : Transfer) (w : List Site) → (owner (to o) == p) ≡ false → map (delivered_one engine o) (part_of engine owner p w) ≡ part_of engine owner p w
    not_map p o [] n = refl
    not_map p o (s ∷ ss) n =
        by_cases (is_of engine owner p s) (λ e. rw (e, not_goes p o s _ refl n e, not_map p o ss n) refl) (λ e. rw e (not_map p o ss n))

    -- a partition gets what goes to it
    pub part_gets : (p : ℕ) (os : List Transfer) (w : List Site) → part_of engine owner p (delivered engine os w) ≡ delivered engine (to_part engine owner p os) (part_of engine owner p w)
    part_gets p [] w = refl
    part_gets p (o ∷ os) w =
        by_cases (owner (to o) == p) (λ e. rw e (part_gets p os (map (delivered_one engine o) w) ∙ ap (delivered engine (to_part engine owner p os)) (part_map basics owner p o w)))
        (λ e. rw e (part_gets p os (map (delivered_one engine o) w) ∙ ap (delivered engine (to_part engine owner p os)) (part_map basics owner p o w ∙ not_map p o w e)))

    -- and in the order of keys
    pub part_gets_sorted : (p : ℕ) (os : List Transfer) (w : List Site) → part_of engine owner p (delivered engine os w) ≡ delivered engine (sorted engine (to_part engine owner p os)) (part_of engine owner p w)
    part_gets_sorted p os w = part_gets p os w ∙ sym (sorted_delivered (to_part engine owner p os) (part_of engine owner p w))

  pub parts_get_sorted : PartsGetSorted engine
  parts_get_sorted owner p os sites = part_gets_sorted owner p os sites

  -- sorting: how many pass a test, and the order
  module _ (picks : Transfer → Bool) where
    count_inserted : (o : Transfer) (os : List Transfer) → count_by picks (inserted_by by_key o os) ≡ count_by picks (o ∷ os)
    count_inserted o [] = refl
    count_inserted o (p ∷ os) =
        elim (is_lt (by_key o p)) as (λ b. count_by picks (if b then o ∷ (p ∷ os) else p ∷ inserted_by by_key o os) ≡ count_by picks (o ∷ (p ∷ os))) [
          | true ↦ refl
          | false ↦ omega (arith, count_cons picks p (inserted_by by_key o os), count_inserted o os, count_cons picks o os, count_cons picks o (p ∷ os), count_cons picks p os)
        ]

    count_sorted : (done os : List Transfer) → count_by picks (sorted_into engine done os) ≡ count_by picks done + count_by picks os
    count_sorted done [] = omega arith
    count_sorted done (o ∷ os) =
        omega (arith, count_sorted (inserted_by by_key o done) os, count_inserted o done, count_cons picks o done, count_cons picks o os)

  order_sorted : (done os : List Transfer) → IsInOrder by_key done → IsInOrder by_key (sorted_into engine done os)
  order_sorted done [] h = h
  order_sorted done (o ∷ os) h = order_sorted (inserted_by by_key o done) os (ordered_inserted by_key_total o done h)

  pub sorting_keeps_each : SortingKeepsEach engine
  sorting_keeps_each os = record { each = λ picks. omega (arith, count_sorted picks [] os); in_order = order_sorted [] os tt }
