-- Nodes of marks.
use Rattle.std.proofs.Common.{◌≡◌, ℕ, zero, suc, ◌+◌, ◌*◌, ◌-◌, ◌/◌, ◌^◌, ◌<◌, ◌≤◌, Bool, true, false, not, List, drop, length, bit_and, bit_or, inl, inr, ◌⊎◌, arith, refl, ap, sym, subst, ◌∙◌}
use Rattle.std.specs.Prelude.{◌==◌, ◌≢◌}
use Rattle.std.proofs.lemmas.Nat.{and_assoc, and_comm, and_le_r, and_or_apart, and_or_self, or_comm}
use Rattle.std.proofs.lemmas.Bool.Decides.{nat_tests}
use Rattle.std.proofs.lemmas.Bool.{cases_lt}
use Rattle.std.proofs.lemmas.List.{get_or-drop, get_or_past, length-drop}
use Rattle.std.proofs.lemmas.Nat.{pow_pos}
use Rattle.std.proofs.Math.Nat.{pow-succ'}
use Rattle.sim_index.specs.declared.mark.Mark.{Mark}
use Rattle.sim_index.specs.Marks.{ArePairs, IsNextIn, IsPair, IsPower, NoneIn, beyond, joined, meets, no_mark, node, tells}

-- marks over so many places, a power of two: those of the places are the second half
pub record IsPaired (nodes : List Mark) (width : ℕ) : Type 0 where
  pub power : 1 ≤ width → IsPower width
  pub long : length nodes ≡ 2 * width
  pub pairs : ArePairs nodes

none_or : (a b s : ℕ) → bit_and a s ≡ 0 → bit_and b s ≡ 0 → bit_and (bit_or a b) s ≡ 0
none_or a b s h k = and_or_apart s a b k ∙ h

none_first : (a b s : ℕ) → bit_and (bit_or a b) s ≡ 0 → bit_and a s ≡ 0
none_first a b s h =
    let same : bit_and a (bit_or a b) ≡ a = and_comm a (bit_or a b) ∙ ap (λ o. bit_and o a) (or_comm a b) ∙ and_or_self a b in
    let last : bit_and a 0 ≡ 0 = omega (arith, and_le_r a 0) in
    ap (λ x. bit_and x s) (sym same) ∙ and_assoc s a (bit_or a b) ∙ ap (bit_and a) h ∙ last

none_second : (a b s : ℕ) → bit_and (bit_or a b) s ≡ 0 → bit_and b s ≡ 0
none_second a b s h = none_first b a s (ap (λ o. bit_and o s) (or_comm b a) ∙ h)

no_test : (n : ℕ) → not (n == 0) ≡ false → n ≡ 0
no_test n h = grind (arith, nat_tests)

test_no : (n : ℕ) → n ≡ 0 → not (n == 0) ≡ false
test_no n h = grind (arith, nat_tests)

-- a pair has no flag exactly if neither has
pub pair_none : (flags : ℕ) (a b : Mark) → meets flags a ≡ false → meets flags b ≡ false → meets flags (joined a b) ≡ false
pair_none flags a b h k = test_no _ (none_or a.flags b.flags flags (no_test _ h) (no_test _ k))

pub none_pair_first : (flags : ℕ) (a b : Mark) → meets flags (joined a b) ≡ false → meets flags a ≡ false
none_pair_first flags a b h = test_no _ (none_first a.flags b.flags flags (no_test _ h))

pub none_pair_second : (flags : ℕ) (a b : Mark) → meets flags (joined a b) ≡ false → meets flags b ≡ false
none_pair_second flags a b h = test_no _ (none_second a.flags b.flags flags (no_test _ h))

split_le : (a b : ℕ) → (a ≤ b) ⊎ (b < a)
split_le a b = elim (cases_lt b a) [ inl l ↦ inr l | inr l ↦ inl l ]

-- where a node has no flag, neither of the two below it has
quiet_pair : (nodes : List Mark) (flags i : ℕ) → IsPair nodes i → tells nodes flags i ≡ false → (tells nodes flags (2 * i) ≡ false) × (tells nodes flags (2 * i + 1) ≡ false)
quiet_pair nodes flags i h e =
    let n : meets flags (joined (node nodes (2 * i)) (node nodes (2 * i + 1))) ≡ false = ap (meets flags) (sym h) ∙ e in
    (none_pair_first flags (node nodes (2 * i)) (node nodes (2 * i + 1)) n, none_pair_second flags (node nodes (2 * i)) (node nodes (2 * i + 1)) n)

quiet_by : (nodes : List Mark) (flags p i : ℕ) → (i ≡ 2 * p) ⊎ (i ≡ 2 * p + 1) → (tells nodes flags (2 * p) ≡ false) × (tells nodes flags (2 * p + 1) ≡ false) → tells nodes flags i ≡ false
quiet_by nodes flags p i (inl e) h = ap (tells nodes flags) e ∙ h.0
quiet_by nodes flags p i (inr e) h = ap (tells nodes flags) e ∙ h.1

-- a node is the first or the second of a pair
pub of_pair : (i : ℕ) → (i ≡ 2 * (i / 2)) ⊎ (i ≡ 2 * (i / 2) + 1)
of_pair i = elim (split_le (2 * (i / 2) + 1) i) [ inl l ↦ inr (omega arith) | inr l ↦ inl (omega arith) ]

-- what a node tells nothing of, no node below it does
pub quiet : (nodes : List Mark) (flags i : ℕ) → ArePairs nodes → 2 ≤ i → 2 * (i / 2) + 1 < length nodes → tells nodes flags (i / 2) ≡ false → tells nodes flags i ≡ false
quiet nodes flags i pairs low high e =
    quiet_by nodes flags (i / 2) i (of_pair i) (quiet_pair nodes flags (i / 2) (pairs (i / 2) (omega arith) (omega arith)) e)

-- a row of a power of two, below another
pub record IsBelow (nodes : List Mark) (row : ℕ) : Type 0 where
  pub power : IsPower (row / 2)
  pub twice : 2 * (row / 2) ≡ row
  pub some : 1 ≤ row / 2

pub is_below : (nodes : List Mark) (row : ℕ) → IsPower row → row ≢ 1 → IsBelow nodes row
is_below nodes row h n = by h.0 h.1
  where
    by : (k : ℕ) → row ≡ 2 ^ k → IsBelow nodes row
    by zero e = absurd (n e)
    by (suc k) e =
        let p : 2 ^ suc k ≡ 2 * 2 ^ k = pow-succ' 2 k in
        let l : 1 ≤ 2 ^ k = pow_pos k in
        let q : row / 2 ≡ 2 ^ k = omega (arith, p, e) in
        record { power = (k, q); twice = omega (arith, p, e, q); some = omega (arith, q, l) }

-- nothing in a row, up to a pair, where there is nothing in the row above up to the node of that pair
pub none_below : (nodes : List Mark) (flags row from p : ℕ) → ArePairs nodes → 2 * row ≤ length nodes → IsBelow nodes row → row ≤ from → p ≤ row → NoneIn nodes flags from (beyond from)
    → NoneIn nodes flags (from / 2 + 1) p → NoneIn nodes flags from (2 * p)
none_below nodes flags row from p pairs fits below start end near none i l u =
    elim (split_le (from / 2 + 1) (i / 2)) [
      | inl m ↦ quiet nodes flags i pairs (omega (arith, below.some, below.twice)) (omega arith) (none (i / 2) m (omega arith))
      | inr m ↦ near i l (omega arith)
    ]

second_tells : (nodes : List Mark) (flags p : ℕ) → IsPair nodes p → tells nodes flags p ≡ true → tells nodes flags (2 * p) ≡ false → (b : Bool) → tells nodes flags (2 * p + 1) ≡ b → b ≡ true
second_tells nodes flags p h e f true g = refl
second_tells nodes flags p h e f false g =
    let none : tells nodes flags p ≡ false = ap (meets flags) h ∙ pair_none flags (node nodes (2 * p)) (node nodes (2 * p + 1)) f g in
    cc

-- the first of a row, by that of the row above
pub next_below : (nodes : List Mark) (flags row from p place : ℕ) → ArePairs nodes → 2 * row ≤ length nodes → IsBelow nodes row → row ≤ from → NoneIn nodes flags from (beyond from)
    → IsNextIn nodes flags (from / 2 + 1) (2 * (row / 2)) p
    → ((tells nodes flags (2 * p) ≡ true) × (place ≡ 2 * p)) ⊎ ((tells nodes flags (2 * p) ≡ false) × (place ≡ 2 * p + 1)) → IsNextIn nodes flags from (2 * row) place
next_below nodes flags row from p place pairs fits below start near next (inl h) =
    rw h.1
    (record {
      past = omega (arith, next.past);
      within = omega (arith, next.within, below.twice);
      found = h.0;
      none_before = none_below nodes flags row from p pairs fits below start (omega (arith, next.within, below.twice)) near next.none_before;
    })
next_below nodes flags row from p place pairs fits below start near next (inr h) =
    let there : tells nodes flags (2 * p + 1) ≡ true =
    second_tells nodes flags p (pairs p (omega (arith, next.past)) (omega (arith, next.within, below.twice))) next.found h.0 (tells nodes flags (2 * p + 1)) refl in
    rw h.1
    (record {
      past = omega (arith, next.past);
      within = omega (arith, next.within, below.twice);
      found = there;
      none_before = λ i l u.
          elim (split_le (2 * p) i) [
            | inl m ↦ let same : i ≡ 2 * p = omega arith in ap (tells nodes flags) same ∙ h.0
            | inr m ↦ none_below nodes flags row from p pairs fits below start (omega (arith, next.within, below.twice)) near next.none_before i l m
          ];
    })

-- an empty place tells of none
pub no_meets : (flags : ℕ) → meets flags no_mark ≡ false
no_meets flags = test_no (bit_and 0 flags) (let l : bit_and flags 0 ≤ 0 = and_le_r flags 0 in omega (arith, and_comm 0 flags, l))

-- where the first node has no flag, no node does of a row of a power of two
pub quiet_tree : (nodes : List Mark) (flags k : ℕ) → ArePairs nodes → 2 * 2 ^ k ≤ length nodes → tells nodes flags 1 ≡ false → NoneIn nodes flags (2 ^ k) (2 * 2 ^ k)
quiet_tree nodes flags zero pairs long e = λ i from within.
    let one : i ≡ 1 = omega (arith, from, within) in
    ap (tells nodes flags) one ∙ e
quiet_tree nodes flags (suc k) pairs long e = λ i from within.
    let p : 2 ^ suc k ≡ 2 * 2 ^ k = pow-succ' 2 k in
    let l : 1 ≤ 2 ^ k = pow_pos k in
    let above = quiet_tree nodes flags k pairs (omega (arith, p, long)) e in
    quiet nodes flags i pairs (omega (arith, from, p, l)) (omega (arith, within, long)) (above (i / 2) (omega (arith, from, p)) (omega (arith, within, p)))

pub quiet_row : (nodes : List Mark) (flags row : ℕ) → ArePairs nodes → IsPower row → 2 * row ≤ length nodes → tells nodes flags 1 ≡ false → NoneIn nodes flags row (2 * row)
quiet_row nodes flags row pairs h long e =
    let same : row ≡ 2 ^ h.0 = h.1 in
    subst (λ r. NoneIn nodes flags r (2 * r)) (sym same) (quiet_tree nodes flags h.0 pairs (omega (arith, long, same)) e)

-- a tree whose first node has a flag has a place
pub some_of_root : (nodes : List Mark) (width flags : ℕ) → length nodes ≡ 2 * width → tells nodes flags 1 ≡ true → 1 ≤ width
some_of_root nodes width flags long told =
    elim (cases_lt 0 width) [
      | inl l ↦ omega (arith, l)
      | inr l ↦ let none : true ≡ false = sym told ∙ ap (meets flags) (get_or_past nodes 1 no_mark (omega (arith, long, l))) ∙ no_meets flags in cc
    ]

-- what the leaves tell, by the nodes of the tree whose second half they are
module _ (nodes leaves : List Mark) (width flags : ℕ) (tree : IsPaired nodes width) (view : drop width nodes ≡ leaves) where
  as_long : length leaves ≡ width
  as_long = omega (arith, ap length view, length-drop width nodes, tree.long)

  as_told : (i : ℕ) → tells leaves flags i ≡ tells nodes flags (width + i)
  as_told i = ap (λ ms. tells ms flags i) (sym view) ∙ ap (meets flags) (get_or-drop width nodes i no_mark)

  pub none_of_leaves : (from : ℕ) → NoneIn nodes flags (width + from) (2 * width) → NoneIn leaves flags from (length leaves)
  none_of_leaves from none = λ i l u. as_told i ∙ none (width + i) (omega (arith, l)) (omega (arith, u, as_long))

  pub next_of_leaves : (from node : ℕ) → IsNextIn nodes flags (width + from) (2 * width) node → IsNextIn leaves flags from (length leaves) (node - width)
  next_of_leaves from node next =
      let back : width + (node - width) ≡ node = omega (arith, next.past) in
      record {
        past = omega (arith, next.past);
        within = omega (arith, next.past, next.within, as_long);
        found = as_told (node - width) ∙ ap (tells nodes flags) back ∙ next.found;
        none_before = λ i l u. as_told i ∙ next.none_before (width + i) (omega (arith, l)) (omega (arith, u, next.past));
      }

  -- none has a flag that the first node has not
  pub none_of_root : (from : ℕ) → tells nodes flags 1 ≡ false → NoneIn leaves flags from (length leaves)
  none_of_root from e i l u = as_told i ∙ quiet_row nodes flags width tree.pairs (tree.power (omega (arith, u, as_long))) (omega (arith, tree.long)) e (width + i) (omega arith) (omega (arith, u, as_long))
