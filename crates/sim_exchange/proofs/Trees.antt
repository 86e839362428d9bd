-- A tree of heads: the first node has the least of those at its leaves.
use Rattle.std.specs.Cmp.{IsTotalOrder}
use Rattle.std.specs.Ordering.{is_lt}
use Rattle.std.specs.Prelude.{List, cond, drop, false, if◌then◌else◌, length, set, suc, true, zero, ℕ, ◌*◌, ◌+◌, ◌-◌, ◌/◌, ◌<◌, ◌≡◌, ◌≤◌, ◌⊎◌}
use Rattle.std.proofs.Common.{ap, arith, get_or-set_other, get_or-set_same, inl, inr, refl, subst, sym, ◌∙◌}
use Rattle.std.proofs.lemmas.Bool.{cases_eq, cases_lt}
use Rattle.std.proofs.lemmas.Cmp.{nat_cmp_total, on_total, then_total}
use Rattle.std.proofs.lemmas.List.{get_or-drop, length-drop, length-set}
use Rattle.sim_clock.specs.Order.{key_cmp_total}
use Rattle.sim_clock.proofs.Inserted.{upto_before}
use Rattle.sim_engine.proofs.MergedLists.{later}
use Rattle.sim_exchange.specs.declared.heads.Head.{Head}
use Rattle.sim_exchange.specs.Heads.{AreLesserBut, IsLeast, IsTree, IsUpto, head_cmp, head_in, lesser, no_head}

total : IsTotalOrder head_cmp
total =
    then_total (on_total (λ h. cond h.is_done 1 0) nat_cmp_total)
    (then_total (then_total (on_total (λ h. h.key) key_cmp_total) (on_total (λ h. h.site) nat_cmp_total)) (on_total (λ h. h.place) nat_cmp_total))

upto_self : (a : Head) → IsUpto a a
upto_self a = elim (is_lt (head_cmp a a)) as (λ b. is_lt (head_cmp a a) ≡ b → b ≡ false) [ true ↦ λ e. sym e ∙ later total a a e | false ↦ λ e. refl ] refl

-- the lesser of two heads is one of them, and comes after none
record IsOne (a b c : Head) : Type 0 where
  one : (c ≡ a) ⊎ (c ≡ b)
  first : IsUpto c a
  second : IsUpto c b

lesser_one : (a b : Head) → IsOne a b (lesser a b)
lesser_one a b =
    elim (is_lt (head_cmp b a)) as (λ t. is_lt (head_cmp b a) ≡ t → IsOne a b (if t then b else a)) [
      | true ↦ λ e. record { one = inr refl; first = later total a b e; second = upto_self b }
      | false ↦ λ e. record { one = inl refl; first = upto_self a; second = e }
    ] refl

-- a node is the first or the second of the two below another
of_two : (i : ℕ) → (i ≡ 2 * (i / 2)) ⊎ (i ≡ 2 * (i / 2) + 1)
of_two i = elim (cases_lt (2 * (i / 2)) i) [ inl l ↦ inr (omega arith) | inr l ↦ inl (omega arith) ]

-- a node that is written
pub mended :
    (nodes : List Head) (i : ℕ) (head : Head) → AreLesserBut nodes i → 0 < i → 2 * i + 1 < length nodes
    → head ≡ lesser (head_in nodes (2 * i)) (head_in nodes (2 * i + 1)) → AreLesserBut (set nodes i head) (i / 2)
mended nodes i head h some within is j low high other =
    let long : length (set nodes i head) ≡ length nodes = length-set nodes i head in
    elim (cases_eq j i) [
      | inl e ↦
          rw e
          (get_or-set_same nodes i head (no_head 0) (omega arith) ∙ is
          ∙ (λ k. lesser (sym (get_or-set_other nodes i (2 * i) head (no_head 0) (λ e. omega arith)) k) (sym (get_or-set_other nodes i (2 * i + 1) head (no_head 0) (λ e. omega arith)) k)))
      | inr n ↦
          get_or-set_other nodes i j head (no_head 0) n ∙ h j low (omega (arith, long)) n
          ∙ (λ k. lesser (sym (get_or-set_other nodes i (2 * j) head (no_head 0) (λ e. other (omega arith))) k) (sym (get_or-set_other nodes i (2 * j + 1) head (no_head 0) (λ e. other (omega arith))) k))
    ]

module _ (nodes : List Head) (width : ℕ) (tree : IsTree nodes width) where
  one_at : (i : ℕ) → 1 ≤ i → i < width → IsOne (head_in nodes (2 * i)) (head_in nodes (2 * i + 1)) (head_in nodes i)
  one_at i low high =
      subst (IsOne (head_in nodes (2 * i)) (head_in nodes (2 * i + 1))) (sym (tree.lesser i low (omega (arith, tree.long)) (λ e. omega arith)))
      (lesser_one (head_in nodes (2 * i)) (head_in nodes (2 * i + 1)))

  -- no node comes before the first one
  root_upto : (n i : ℕ) → i ≤ n → 1 ≤ i → i < 2 * width → IsUpto (head_in nodes 1) (head_in nodes i)
  root_upto zero i h low high = absurd (omega arith)
  root_upto (suc n) i h low high =
      elim (cases_lt 1 i) [
        | inl l ↦
            let above : IsUpto (head_in nodes 1) (head_in nodes (i / 2)) = root_upto n (i / 2) (omega arith) (omega arith) (omega arith) in
            let one = one_at (i / 2) (omega arith) (omega arith) in
            upto_before total (head_in nodes 1) (head_in nodes (i / 2)) (head_in nodes i) above
            (elim (of_two i) [
              | inl e ↦ subst (λ (k : ℕ). IsUpto (head_in nodes (i / 2)) (head_in nodes k)) (sym e) one.first
              | inr e ↦ subst (λ (k : ℕ). IsUpto (head_in nodes (i / 2)) (head_in nodes k)) (sym e) one.second
            ])
        | inr l ↦ let e : i ≡ 1 = omega arith in subst (λ (k : ℕ). IsUpto (head_in nodes 1) (head_in nodes k)) (sym e) (upto_self (head_in nodes 1))
      ]

  -- each node has the head of a leaf
  node_leaf : (n i : ℕ) → 2 * width ≤ i + n → 1 ≤ i → i < 2 * width → (p : ℕ) × (p < width) × (head_in nodes (width + p) ≡ head_in nodes i)
  node_leaf zero i h low high = absurd (omega arith)
  node_leaf (suc n) i h low high =
      elim (cases_lt i width) [
        | inl l ↦
            elim (one_at i low l).one [
              | inl e ↦ let b = node_leaf n (2 * i) (omega arith) (omega arith) (omega arith) in (b.0, b.1, b.2 ∙ sym e)
              | inr e ↦ let b = node_leaf n (2 * i + 1) (omega arith) (omega arith) (omega arith) in (b.0, b.1, b.2 ∙ sym e)
            ]
        | inr l ↦ (i - width, omega arith, let e : width + (i - width) ≡ i = omega arith in ap (head_in nodes) e)
      ]

  -- the first node has the least of the heads at the leaves
  pub root_least : 1 ≤ width → IsLeast (drop width nodes) (head_in nodes 1)
  root_least some =
      let leaf = node_leaf (2 * width) 1 (omega arith) (omega arith) (omega arith) in
      record {
        there = (leaf.0, omega (arith, leaf.1, length-drop width nodes, tree.long), get_or-drop width nodes leaf.0 (no_head 0) ∙ leaf.2);
        upto = λ p l.
            let within : p < width = omega (arith, l, length-drop width nodes, tree.long) in
            subst (IsUpto (head_in nodes 1)) (sym (get_or-drop width nodes p (no_head 0))) (root_upto (width + p) (width + p) (omega arith) (omega arith) (omega arith));
      }
