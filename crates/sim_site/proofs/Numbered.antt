-- Transfers under their keys and the numbers of their insertions: the first is the least, one with the next number goes behind
-- those of its key, and one with a lesser number than all goes before them.
use Rattle.std.specs.Prelude.{List, Some, [], false, slice_get, map, ℕ, ◌<◌, ◌+◌, ◌∷◌, ◌≡◌, ◌≤◌}
use Rattle.std.specs.List.{AllByRecursion}
use Rattle.std.specs.List.Sorted.{IsStrictlySortedBy}
use Rattle.std.specs.BTreeMap.{insert_entry}
use Rattle.std.specs.Map.{keys_of, values_of}
use Rattle.std.specs.Ordering.{is_lt, match_ordering, nat_cmp, on, ordering_reverse, ordering_then}
use Rattle.std.specs.declared.cmp.Ordering.{Ordering}
use Rattle.std.proofs.Common.{Equal, Greater, Less, ap, arith, if◌then◌else◌, refl, subst, sym, ◌∙◌}
use Rattle.sim_clock.specs.declared.key.Key.{Key}
use Rattle.sim_clock.specs.contracts.key.KeyOrd.TheImpl.{ghosts as of_keys}
use Rattle.sim_clock.specs.Order.{IsBefore, IsInOrder, inserted_by, key_cmp, key_cmp_total, least}
use Rattle.sim_clock.proofs.Places.{least_in_order}
use Rattle.sim_clock.proofs.HeapOrder.{keys_compare}
use Rattle.sqs_redrive.specs.declared.transfers.Outbound.{Outbound}
use Rattle.sqs_redrive.specs.Transfers.{transfer_key}
use Rattle.sim_site.specs.Arrivals.{AreArriving, IsArriving, arriving_cmp}

abbrev Entry : Type 0
Entry = (Key × ℕ) × Outbound

-- the order of the entries, as the tree computes it
abbrev pub computed : Key × ℕ → Key × ℕ → Ordering
computed a b = ordering_then (of_keys.cmp a.0 b.0) (nat_cmp a.1 b.1)

compares : computed ≡ arriving_cmp
compares i a b = ordering_then (keys_compare a.0 b.0 i) (nat_cmp a.1 b.1)

pub in_order : (es : List Entry) → IsStrictlySortedBy computed (keys_of es) → IsStrictlySortedBy arriving_cmp (keys_of es)
in_order es = subst (λ R. IsStrictlySortedBy R (keys_of es)) compares

not_after : (o p : Ordering) → ordering_then o p ≡ Less → is_lt (ordering_reverse o) ≡ false
not_after Less p h = refl
not_after Equal p h = refl
not_after Greater p h = cc

-- the keys of the transfers are in order
keys_in_order : (first next : ℕ) (es : List Entry) → AllByRecursion (IsArriving first next) es → IsStrictlySortedBy arriving_cmp (keys_of es) → IsInOrder key_cmp (map transfer_key (values_of es))
unfolding IsStrictlySortedBy
keys_in_order first next [] a s = tt
keys_in_order first next (e ∷ []) a s = (tt, tt)
keys_in_order first next (e ∷ f ∷ es) a s =
    let back : is_lt (key_cmp f.0.0 e.0.0) ≡ false = ap is_lt (key_cmp_total.antisymm f.0.0 e.0.0) ∙ not_after (key_cmp e.0.0 f.0.0) (nat_cmp e.0.1 f.0.1) s.0.0 in
    let here : is_lt (key_cmp (transfer_key f.1) (transfer_key e.1)) ≡ false =
    ap (λ k. is_lt (key_cmp k (transfer_key e.1))) (sym a.1.0.key) ∙ ap (λ k. is_lt (key_cmp f.0.0 k)) (sym a.0.key) ∙ back in
    (here, keys_in_order first next (f ∷ es) a.1 s.1)

first_by : (first next : ℕ) (e : Entry) (es : List Entry) → AreArriving first next (e ∷ es) → Some (transfer_key e.1) ≡ least (map transfer_key (values_of (e ∷ es)))
first_by first next e es a = sym (least_in_order key_cmp (transfer_key e.1) (map transfer_key (values_of es)) (keys_in_order first next (e ∷ es) a.each a.order))

-- the key of the first is the least
pub first_is_least : (first next : ℕ) (e : Entry) (es : List Entry) → AreArriving first next es → slice_get es 0 ≡ Some e → Some (transfer_key e.1) ≡ least (map transfer_key (values_of es))
first_is_least first next e [] a h = cc
first_is_least first next e (f ∷ es) a h =
    let same : e ≡ f = cc in
    ap (λ (x : Entry). Some (transfer_key x.1)) same ∙ first_by first next f es a

-- no transfers
pub none_arriving : (n : ℕ) (es : List Entry) → es ≡ [] → AreArriving n n es
unfolding IsStrictlySortedBy
none_arriving n es h = rw h (record { bounds = omega arith; each = tt; order = tt })

-- those behind the first
pub behind_first :
    (first next : ℕ) (e : Entry) (es fs : List Entry) → AreArriving first next es → es ≡ e ∷ fs → IsStrictlySortedBy computed (keys_of fs) → AreArriving first next fs
behind_first first next e es fs a h s =
    let all : AllByRecursion (IsArriving first next) (e ∷ fs) = subst (AllByRecursion (IsArriving first next)) h a.each in
    record { bounds = a.bounds; each = all.1; order = in_order fs s }

one_more : (first next : ℕ) (es : List Entry) → AllByRecursion (IsArriving first next) es → AllByRecursion (IsArriving first (next + 1)) es
one_more first next [] a = tt
one_more first next (e ∷ es) a =
    let below : e.0.1 < next = a.0.number in
    (record { key = a.0.key; from = a.0.from; number = omega arith }, one_more first next es a.1)

greater : (m n : ℕ) → m < n → nat_cmp n m ≡ Greater
greater m n l = grind (arith)

lesser : (m n : ℕ) → m < n → nat_cmp m n ≡ Less
lesser m n l = grind (arith)

inserted_alike : (o : Outbound) (n : ℕ) (es fs : List Entry) (k : Key) → k ≡ transfer_key o → fs ≡ insert_entry computed es (k, n) o → fs ≡ insert_entry arriving_cmp es (transfer_key o, n) o
inserted_alike o n es fs k e h = h ∙ ap (λ j. insert_entry computed es (j, n) o) e ∙ ap (λ R. insert_entry R es (transfer_key o, n) o) compares

-- one with the next number
module _ (first next : ℕ) (o : Outbound) where
  -- what it stands under
  abbrev own : Key × ℕ
  own = (transfer_key o, next)

  each_by : (e : Entry) (es fs : List Entry) (c p : Ordering) → first ≤ next → p ≡ Greater → AllByRecursion (IsArriving first (next + 1)) (e ∷ es) → AllByRecursion (IsArriving first (next + 1)) fs
      → AllByRecursion (IsArriving first (next + 1)) (match_ordering (ordering_then c p) ((own, o) ∷ e ∷ es) ((e.0, o) ∷ es) (e ∷ fs))
  each_by e es fs Less p l h a b = (record { key = refl; from = l; number = omega arith }, a)
  each_by e es fs Equal p l h a b = rw h (a.0, b)
  each_by e es fs Greater p l h a b = (a.0, b)

  each_inserted : (es : List Entry) → first ≤ next → AllByRecursion (IsArriving first next) es → AllByRecursion (IsArriving first (next + 1)) (insert_entry arriving_cmp es own o)
  each_inserted [] l a = (record { key = refl; from = l; number = omega arith }, tt)
  each_inserted (e ∷ es) l a =
      each_by e es (insert_entry arriving_cmp es own o) (key_cmp (transfer_key o) e.0.0) (nat_cmp next e.0.1) l (greater e.0.1 next a.0.number) (one_more first next (e ∷ es) a) (each_inserted es l a.1)

  -- it is among them
  pub one_inserted :
      (es fs : List Entry) (k : Key) (n : ℕ) → AreArriving first next es → k ≡ transfer_key o → fs ≡ insert_entry computed es (k, next) o → n ≡ next + 1 → IsStrictlySortedBy computed (keys_of fs)
      → AreArriving first n fs
  one_inserted es fs k n a e h m s =
      rw m
      (record { bounds = omega (arith, a.bounds); each = subst (AllByRecursion (IsArriving first (next + 1))) (sym (inserted_alike o next es fs k e h)) (each_inserted es a.bounds a.each); order = in_order fs s })

  values_by : (e : Entry) (es fs : List Entry) (c p : Ordering) → p ≡ Greater → values_of fs ≡ inserted_by (on transfer_key key_cmp) o (values_of es)
      → values_of (match_ordering (ordering_then c p) ((own, o) ∷ e ∷ es) ((e.0, o) ∷ es) (e ∷ fs)) ≡ (if is_lt c then o ∷ (e.1 ∷ values_of es) else e.1 ∷ inserted_by (on transfer_key key_cmp) o (values_of es))
  values_by e es fs Less p h r = refl
  values_by e es fs Equal p h r = rw h (ap (λ t. e.1 ∷ t) r)
  values_by e es fs Greater p h r = ap (λ t. e.1 ∷ t) r

  placed_by_key : (es : List Entry) → AllByRecursion (IsArriving first next) es → values_of (insert_entry arriving_cmp es own o) ≡ inserted_by (on transfer_key key_cmp) o (values_of es)
  placed_by_key [] a = refl
  placed_by_key (e ∷ es) a =
      values_by e es (insert_entry arriving_cmp es own o) (key_cmp (transfer_key o) e.0.0) (nat_cmp next e.0.1) (greater e.0.1 next a.0.number) (placed_by_key es a.1)
      ∙ ap (λ k. if is_lt (key_cmp (transfer_key o) k) then o ∷ (e.1 ∷ values_of es) else e.1 ∷ inserted_by (on transfer_key key_cmp) o (values_of es)) a.0.key

  -- it goes in front of the first transfer that comes after it
  pub values_inserted :
      (es fs : List Entry) (k : Key) → AreArriving first next es → k ≡ transfer_key o → fs ≡ insert_entry computed es (k, next) o → values_of fs ≡ inserted_by (on transfer_key key_cmp) o (values_of es)
  values_inserted es fs k a e h = ap values_of (inserted_alike o next es fs k e h) ∙ placed_by_key es a.each

-- one with a number below all, which none comes before
module _ (first next n : ℕ) (o : Outbound) (below : n < first) where
  abbrev Behind : List Entry → Type 0
  Behind es = IsBefore (on transfer_key key_cmp) o (values_of es)

  front_by : (e : Entry) (es fs : List Entry) (c p : Ordering) → is_lt (ordering_reverse c) ≡ false → p ≡ Less → match_ordering (ordering_then c p) (((transfer_key o, n), o) ∷ e ∷ es) ((e.0, o) ∷ es) (e ∷ fs) ≡ ((transfer_key o, n), o) ∷ e ∷ es
  front_by e es fs Less p h l = refl
  front_by e es fs Equal p h l = rw l refl
  front_by e es fs Greater p h l = cc

  in_front : (es : List Entry) → AllByRecursion (IsArriving first next) es → Behind es → insert_entry arriving_cmp es (transfer_key o, n) o ≡ ((transfer_key o, n), o) ∷ es
  in_front [] a b = refl
  in_front (e ∷ es) a b =
      let not_before : is_lt (ordering_reverse (key_cmp (transfer_key o) e.0.0)) ≡ false =
      ap is_lt (sym (key_cmp_total.antisymm e.0.0 (transfer_key o))) ∙ ap (λ k. is_lt (key_cmp k (transfer_key o))) a.0.key ∙ b in
      let less : n < e.0.1 = omega (arith, below, a.0.from) in
      front_by e es (insert_entry arriving_cmp es (transfer_key o, n) o) (key_cmp (transfer_key o) e.0.0) (nat_cmp n e.0.1) not_before (lesser n e.0.1 less)

  -- it goes in front of all
  pub front_inserted : (es fs : List Entry) (k : Key) → AreArriving first next es → Behind es → k ≡ transfer_key o → fs ≡ insert_entry computed es (k, n) o → fs ≡ ((transfer_key o, n), o) ∷ es
  front_inserted es fs k a b e h = inserted_alike o n es fs k e h ∙ in_front es a.each b

  from_before : (es : List Entry) → AllByRecursion (IsArriving first next) es → AllByRecursion (IsArriving n next) es
  from_before [] a = tt
  from_before (e ∷ es) a = (record { key = a.0.key; from = omega (arith, below, a.0.from); number = a.0.number }, from_before es a.1)

  -- and is among them
  pub front_arriving :
      (es fs : List Entry) (k : Key) → AreArriving first next es → Behind es → k ≡ transfer_key o → fs ≡ insert_entry computed es (k, n) o → IsStrictlySortedBy computed (keys_of fs)
      → AreArriving n next fs
  front_arriving es fs k a b e h s =
      let own : IsArriving n next ((transfer_key o, n), o) = record { key = refl; from = omega arith; number = omega (arith, below, a.bounds) } in
      record { bounds = omega (arith, below, a.bounds); each = subst (AllByRecursion (IsArriving n next)) (sym (front_inserted es fs k a b e h)) (own, from_before es a.each); order = in_order fs s }
