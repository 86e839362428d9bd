-- The least of what nodes tell to be due, row by row.
use Rattle.std.specs.Ordering.{is_lt}
use Rattle.std.specs.Prelude.{◌≢◌, if◌then◌else◌}
use Rattle.std.proofs.Math.Nat.{pow-le-pow_right}
use Rattle.std.proofs.Common.{◌/◌, ◌⊎◌, true, false, inl, inr, ◌≡◌, ℕ, zero, suc, ◌+◌, ◌*◌, ◌^◌, ◌≤◌, ◌<◌, ◌-◌, ◌*◌, List, [], ◌∷◌, Option, Some, None, length, drop, arith, refl, ap, sym, ◌∙◌}
use Rattle.std.proofs.lemmas.List.{drop_all, drop_more, get_or-drop, get_or_past, length-drop}
use Rattle.std.proofs.lemmas.Bool.{cases_lt}
use Rattle.std.proofs.lemmas.Nat.{pow_pos}
use Rattle.std.proofs.Math.Nat.{pow-succ'}
use Rattle.sim_clock.specs.declared.key.Key.{Key}
use Rattle.sim_clock.specs.Order.{key_cmp, key_cmp_total, lesser}
use Rattle.sim_clock.proofs.Least.{key_tied, lesser_swap}
use Rattle.sim_index.specs.declared.mark.Mark.{Mark}
use Rattle.sim_index.specs.Marks.{ArePairs, IsFirstOf, IsPair, IsPlaceOfLeast, IsPower, least_of, no_mark, node}
use Rattle.sim_index.proofs.Rows.{IsPaired, of_pair}

swap : (a b : Key) (m : Option Key) → lesser (Some a) (lesser (Some b) m) ≡ lesser (Some b) (lesser (Some a) m)
swap = lesser_swap key_cmp_total key_tied

lesser_none : (a : Option Key) → lesser a None ≡ a
lesser_none None = refl
lesser_none (Some a) = refl

lesser_turned : (a b : Option Key) → lesser a b ≡ lesser b a
lesser_turned None b = sym (lesser_none b)
lesser_turned (Some a) None = refl
lesser_turned (Some a) (Some b) = swap a b None

-- the least of three, whichever comes first
pub swapped : (a b m : Option Key) → lesser a (lesser b m) ≡ lesser b (lesser a m)
swapped None b m = refl
swapped (Some a) None m = refl
swapped (Some a) (Some b) m = swap a b m

pub lesser_assoc : (a b c : Option Key) → lesser (lesser a b) c ≡ lesser a (lesser b c)
lesser_assoc a b c = lesser_turned (lesser a b) c ∙ swapped c a b ∙ ap (lesser a) (lesser_turned c b)

-- the least of so many nodes from one on
abbrev span : List Mark → ℕ → ℕ → Option Key
span nodes start zero = None
span nodes start (suc n) = lesser (node nodes start).due (span nodes (start + 1) n)

-- twice as many nodes of the row below tell the same
span_pairs : (nodes : List Mark) (start n : ℕ) → ArePairs nodes → 1 ≤ start → 2 * (start + n) ≤ length nodes → span nodes (2 * start) (2 * n) ≡ span nodes start n
span_pairs nodes start zero pairs l h = refl
span_pairs nodes start (suc n) pairs l h =
    let twice : 2 * suc n ≡ suc (suc (2 * n)) = omega arith in
    let next : 2 * start + 1 + 1 ≡ 2 * (start + 1) = omega arith in
    let first : (node nodes start).due ≡ lesser (node nodes (2 * start)).due (node nodes (2 * start + 1)).due = ap (λ (m : Mark). m.due) (pairs start l (omega arith)) in
    ap (span nodes (2 * start)) twice
    ∙ ap (λ k. lesser (node nodes (2 * start)).due (lesser (node nodes (2 * start + 1)).due (span nodes k (2 * n)))) next
    ∙ ap (λ o. lesser (node nodes (2 * start)).due (lesser (node nodes (2 * start + 1)).due o)) (span_pairs nodes (start + 1) n pairs (omega arith) (omega arith))
    ∙ sym (lesser_assoc (node nodes (2 * start)).due (node nodes (2 * start + 1)).due (span nodes (start + 1) n))
    ∙ ap (λ o. lesser o (span nodes (start + 1) n)) (sym first)

-- each row tells what the first node does
span_power : (nodes : List Mark) (k : ℕ) → ArePairs nodes → 2 * 2 ^ k ≤ length nodes → span nodes (2 ^ k) (2 ^ k) ≡ (node nodes 1).due
span_power nodes zero pairs h = lesser_none (node nodes 1).due
span_power nodes (suc k) pairs h =
    let p : 2 ^ suc k ≡ 2 * 2 ^ k = pow-succ' 2 k in
    let l : 1 ≤ 2 ^ k = pow_pos k in
    (λ j. span nodes (p j) (p j)) ∙ span_pairs nodes (2 ^ k) (2 ^ k) pairs l (omega (arith, p, h)) ∙ span_power nodes k pairs (omega (arith, p, h))

-- the nodes from one on
span_drop : (nodes : List Mark) (start n : ℕ) → start + n ≡ length nodes → span nodes start n ≡ least_of (drop start nodes)
span_drop nodes start zero e = sym (ap least_of (drop_all start nodes (omega arith)))
span_drop nodes start (suc n) e =
    ap (lesser (node nodes start).due) (span_drop nodes (start + 1) n (omega arith)) ∙ sym (ap least_of (drop_more nodes start no_mark (omega arith)))

-- the first node tells what all leaves do
root_some : (nodes : List Mark) (width : ℕ) → IsPaired nodes width → 1 ≤ width → (node nodes 1).due ≡ least_of (drop width nodes)
root_some nodes width h l =
    let p = h.power l in
    let e : width ≡ 2 ^ p.0 = p.1 in
    sym (span_power nodes p.0 h.pairs (omega (arith, h.long, e)))
    ∙ (λ j. span nodes (sym e j) (sym e j))
    ∙ span_drop nodes width width (omega (arith, h.long))

pub root_least : (nodes : List Mark) (width : ℕ) → IsPaired nodes width → (node nodes 1).due ≡ least_of (drop width nodes)
root_least nodes width h =
    elim (cases_lt 0 width) [
      | inl l ↦ root_some nodes width h (omega arith)
      | inr l ↦
          ap (λ (m : Mark). m.due) (get_or_past nodes 1 no_mark (omega (arith, h.long))) ∙ sym (ap least_of (drop_all width nodes (omega (arith, h.long))))
    ]

-- what is the least of all is the least of it and of each part
pub lesser_self : (a : Option Key) → lesser a a ≡ a
lesser_self None = refl
lesser_self (Some a) = elim (is_lt (key_cmp a a)) as (λ b. (if b then Some a else Some a) ≡ Some a) [ true ↦ refl | false ↦ refl ]

least_first : (d a b : Option Key) → lesser d (lesser a b) ≡ d → lesser d a ≡ d
least_first d a b e =
    ap (λ o. lesser o a) (sym e) ∙ lesser_assoc d (lesser a b) a ∙ ap (lesser d) (lesser_turned (lesser a b) a ∙ sym (lesser_assoc a a b) ∙ ap (λ o. lesser o b) (lesser_self a)) ∙ e

least_second : (d a b : Option Key) → lesser d (lesser a b) ≡ d → lesser d b ≡ d
least_second d a b e = least_first d b a (ap (lesser d) (lesser_turned b a) ∙ e)

-- no node tells less than the first does
below_by : (nodes : List Mark) (i p : ℕ) → (i ≡ 2 * p) ⊎ (i ≡ 2 * p + 1) → IsPair nodes p → lesser (node nodes 1).due (node nodes p).due ≡ (node nodes 1).due
    → lesser (node nodes 1).due (node nodes i).due ≡ (node nodes 1).due
below_by nodes i p (inl e) pair h =
    ap (λ k. lesser (node nodes 1).due (node nodes k).due) e
    ∙ least_first (node nodes 1).due (node nodes (2 * p)).due (node nodes (2 * p + 1)).due (ap (λ (m : Mark). lesser (node nodes 1).due m.due) (sym pair) ∙ h)
below_by nodes i p (inr e) pair h =
    ap (λ k. lesser (node nodes 1).due (node nodes k).due) e
    ∙ least_second (node nodes 1).due (node nodes (2 * p)).due (node nodes (2 * p + 1)).due (ap (λ (m : Mark). lesser (node nodes 1).due m.due) (sym pair) ∙ h)

below_root : (nodes : List Mark) (width n i : ℕ) → ArePairs nodes → length nodes ≡ 2 * width → i ≤ n → 1 ≤ i → i < length nodes
    → lesser (node nodes 1).due (node nodes i).due ≡ (node nodes 1).due
below_root nodes width zero i pairs long fits low high = absurd (omega arith)
below_root nodes width (suc n) i pairs long fits low high =
    elim (cases_lt 1 i) [
      | inl l ↦ below_by nodes i (i / 2) (of_pair i) (pairs (i / 2) (omega arith) (omega arith)) (below_root nodes width n (i / 2) pairs long (omega arith) (omega arith) (omega arith))
      | inr l ↦
          let one : i ≡ 1 = omega arith in
          ap (λ k. lesser (node nodes 1).due (node nodes k).due) one ∙ lesser_self (node nodes 1).due
    ]

-- no node before one in its row tells what the first node does
pub record IsFirstInRow (nodes : List Mark) (place : ℕ) : Type 0 where
  pub row : ℕ
  pub power : IsPower row
  pub from : row ≤ place
  pub within : place < 2 * row
  pub before : (i : ℕ) → row ≤ i → i < place → (node nodes i).due ≢ (node nodes 1).due

pub first_root : (nodes : List Mark) → IsFirstInRow nodes 1
first_root nodes = record { row = 1; power = (0, refl); from = omega arith; within = omega arith; before = λ i l u. absurd (omega arith) }

-- where a node does not, neither of the two below it does
least_kept : (d a b : Option Key) → lesser d a ≡ d → lesser d b ≡ d → (a ≡ d) ⊎ (b ≡ d) → lesser a b ≡ d
least_kept d a b h k (inl e) = ap (λ o. lesser o b) e ∙ k
least_kept d a b h k (inr e) = lesser_turned a b ∙ ap (λ o. lesser o a) e ∙ h

told_above : (nodes : List Mark) (width i : ℕ) → ArePairs nodes → length nodes ≡ 2 * width → 2 ≤ i → i < length nodes → (node nodes i).due ≡ (node nodes 1).due → (node nodes (i / 2)).due ≡ (node nodes 1).due
told_above nodes width i pairs long low high e =
    let p : ℕ = i / 2 in
    let all : (k : ℕ) → 1 ≤ k → k < length nodes → lesser (node nodes 1).due (node nodes k).due ≡ (node nodes 1).due = λ k l u. below_root nodes width k k pairs long (omega arith) l u in
    ap (λ (m : Mark). m.due) (pairs p (omega arith) (omega arith))
    ∙ least_kept (node nodes 1).due (node nodes (2 * p)).due (node nodes (2 * p + 1)).due (all (2 * p) (omega arith) (omega arith)) (all (2 * p + 1) (omega arith) (omega arith))
    (elim (of_pair i) [
      | inl f ↦ inl (ap (λ k. (node nodes k).due) (sym f) ∙ e)
      | inr f ↦ inr (ap (λ k. (node nodes k).due) (sym f) ∙ e)
    ])

-- the first node of a row that tells what the first node does
pub record Below (nodes : List Mark) (width next : ℕ) : Type 0 where
  pub some : 1 ≤ next
  pub within : next < 2 * width
  pub due : (node nodes next).due ≡ (node nodes 1).due
  pub first : IsFirstInRow nodes next

-- the first of the two below the first in its row is the first of the row below
pub first_below :
    (nodes : List Mark) (width at next : ℕ) → ArePairs nodes → length nodes ≡ 2 * width → 1 ≤ at → at < width → (node nodes 1).due ≢ None → (node nodes at).due ≡ (node nodes 1).due → IsFirstInRow nodes at
    → IsFirstOf (node nodes (2 * at)).due (node nodes (2 * at + 1)).due (2 * at) (2 * at + 1) next → Below nodes width next
first_below nodes width at next pairs long low high some told first is =
    let whole : lesser (node nodes (2 * at)).due (node nodes (2 * at + 1)).due ≡ (node nodes 1).due = ap (λ (m : Mark). m.due) (sym (pairs at low (omega arith))) ∙ told in
    let row : ℕ = first.row in
    let lower : IsPower (2 * row) = (suc first.power.0, ap (λ k. 2 * k) first.power.1 ∙ sym (pow-succ' 2 first.power.0)) in
    let left : (i : ℕ) → 2 * row ≤ i → i < 2 * at → (node nodes i).due ≢ (node nodes 1).due =
    λ i l u e. first.before (i / 2) (omega arith) (omega arith) (told_above nodes width i pairs long (omega (arith, first.within)) (omega arith) e) in
    elim is [
      | inl h ↦
          record {
            some = omega (arith, h.1);
            within = omega (arith, h.1);
            due = ap (λ k. (node nodes k).due) h.1 ∙ sym h.0 ∙ whole;
            first = record { row = 2 * row; power = lower; from = omega (arith, first.from, h.1); within = omega (arith, first.within, h.1); before = λ i l u. left i l (omega (arith, h.1)) };
          }
      | inr h ↦
          record {
            some = omega (arith, h.1);
            within = omega (arith, h.1);
            due = ap (λ k. (node nodes k).due) h.1 ∙ sym h.0 ∙ whole;
            first = record {
              row = 2 * row;
              power = lower;
              from = omega (arith, first.from, h.1);
              within = omega (arith, first.within, h.1);
              before = λ i l u.
                  elim (cases_lt i (2 * at)) [
                    | inl m ↦ left i l m
                    | inr m ↦ λ e.
                        let here : i ≡ 2 * at = omega (arith, h.1) in
                        let second : (node nodes (2 * at + 1)).due ≡ (node nodes 1).due = sym h.0 ∙ whole in
                        some (sym second ∙ h.2 (ap (λ k. (node nodes k).due) (sym here) ∙ e ∙ sym second))
                  ];
            };
          }
    ]

-- rows of powers of two that meet are one
pub row_above : (a b : ℕ) → IsPower a → IsPower b → a < b → 2 * a ≤ b
row_above a b p q l =
    elim (cases_lt p.0 q.0) [
      | inl m ↦
          let twice : 2 ^ suc p.0 ≡ 2 * 2 ^ p.0 = pow-succ' 2 p.0 in
          let up : 2 ^ suc p.0 ≤ 2 ^ q.0 = pow-le-pow_right (omega arith) (omega arith) in omega (arith, twice, up, p.1, q.1)
      | inr m ↦ let down : 2 ^ q.0 ≤ 2 ^ p.0 = pow-le-pow_right (omega arith) m in absurd (omega (arith, p.1, q.1, down))
    ]

-- the first leaf of a row of leaves
pub first_leaf : (nodes : List Mark) (width leaf : ℕ) → IsPower width → width ≤ leaf → leaf < 2 * width → IsFirstInRow nodes leaf → (k : ℕ) → width ≤ k → k < leaf → (node nodes k).due ≢ (node nodes 1).due
first_leaf nodes width leaf power low high first k l u =
    elim (cases_lt width first.row) [
      | inl m ↦ absurd (omega (arith, row_above width first.row power first.power m, first.from))
      | inr m ↦
          elim (cases_lt first.row width) [
            | inl n ↦ absurd (omega (arith, row_above first.row width first.power power n, first.within))
            | inr n ↦ first.before k (omega arith) u
          ]
    ]

-- the first leaf that tells what the first node does
pub leaf_least : (nodes : List Mark) (width leaf : ℕ) → IsPaired nodes width → width ≤ leaf → leaf < 2 * width → (node nodes 1).due ≢ None → (node nodes leaf).due ≡ (node nodes 1).due
    → ((k : ℕ) → width ≤ k → k < leaf → (node nodes k).due ≢ (node nodes 1).due) → IsPlaceOfLeast (drop width nodes) (leaf - width)
leaf_least nodes width leaf h low high some e first =
    let long : length (drop width nodes) + width ≡ length nodes = omega (arith, length-drop width nodes, h.long) in
    let back : width + (leaf - width) ≡ leaf = omega arith in
    let root : (node nodes 1).due ≡ least_of (drop width nodes) = root_least nodes width h in
    let at : (k : ℕ) → (node (drop width nodes) k).due ≡ (node nodes (width + k)).due = λ k. ap (λ (m : Mark). m.due) (get_or-drop width nodes k no_mark) in
    record {
      some = λ n. some (root ∙ n);
      within = omega (arith, long, h.long);
      due = at (leaf - width) ∙ ap (λ k. (node nodes k).due) back ∙ e ∙ root;
      first = λ k l n. first (width + k) (omega arith) (omega arith) (sym (at k) ∙ n ∙ sym root);
    }

-- the same marks tell the same least, whatever empty places follow
pub same_least : (xs ys : List Mark) → ((i : ℕ) → node xs i ≡ node ys i) → least_of xs ≡ least_of ys
same_least [] [] h = refl
same_least [] (y ∷ ys) h = same_least [] ys (λ i. h (suc i)) ∙ ap (λ (m : Mark). lesser m.due (least_of ys)) (h 0)
same_least (x ∷ xs) [] h = ap (λ (m : Mark). lesser m.due (least_of xs)) (h 0) ∙ same_least xs [] (λ i. h (suc i))
same_least (x ∷ xs) (y ∷ ys) h = ap (λ (m : Mark). lesser m.due (least_of xs)) (h 0) ∙ ap (lesser y.due) (same_least xs ys (λ i. h (suc i)))
