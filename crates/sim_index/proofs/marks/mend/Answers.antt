use Rattle.std.proofs.Common.{List, ap, arith, false, inl, inr, length, refl, rules, set, subst, sym, true, ◌*◌, ◌+◌, ◌/◌, ◌%◌, ◌<◌, ◌≤◌, ◌∙◌, ◌≡◌, ◌==◌, ℕ}
use Rattle.std.proofs.lemmas.Bool.{cases_lt}
use Rattle.std.proofs.lemmas.Bool.Decides.{nat_tests}
use Rattle.std.proofs.lemmas.List.{get_or-set_same, length-set}
use Rattle.sim_index.specs.declared.mark.Mark.{Mark}
use Rattle.sim_index.specs.declared.marks.Node.{Node}
use Rattle.sim_index.specs.Marks.{IsBoth, IsRanked, no_node, node_in}
use Rattle.sim_index.proofs.Mends.{Mending, begun, ended, low, mended, stopped, ranked}
use Rattle.sim_index.proofs.marks.mend.Goals as goal

-- the two nodes of a pair, of which one is the other's other
pub record IsPairOf (n other : ℕ) : Type 0 where
  pub even : n % 2 ≡ 0 → other ≡ n + 1
  pub odd : n % 2 ≡ 1 → other + 1 ≡ n

low_of_pair : (n other : ℕ) → IsPairOf n other → 2 * (n / 2) ≤ other
low_of_pair n other p = elim (cases_lt (n % 2) 1) [ inl l ↦ omega (arith, p.even (omega (arith, l))) | inr l ↦ omega (arith, p.odd (omega (arith, l))) ]

high_of_pair : (n other : ℕ) → IsPairOf n other → other ≤ 2 * (n / 2) + 1
high_of_pair n other p = elim (cases_lt (n % 2) 1) [ inl l ↦ omega (arith, p.even (omega (arith, l))) | inr l ↦ omega (arith, p.odd (omega (arith, l))) ]

is_even : (n : ℕ) → n % 2 ≡ 0 → (n % 2 == 0) ≡ true
is_even n e = grind (arith, nat_tests)

is_odd : (n : ℕ) → n % 2 ≡ 1 → (n % 2 == 0) ≡ false
is_odd n e = grind (arith, nat_tests)

-- what is told together of a node and its other, in the order of the pair
told : (marks : List Mark) (nodes : List Node) (n other : ℕ) (a b both : Node) → a ≡ node_in nodes n → b ≡ node_in nodes other → IsPairOf n other → ((n % 2 == 0) ≡ true → IsBoth marks a b both) → ((n % 2 == 0) ≡ false → IsBoth marks b a both)
    → IsBoth marks (node_in nodes (2 * (n / 2))) (node_in nodes (2 * (n / 2) + 1)) both
told marks nodes n other a b both e f p first second =
    elim (cases_lt (n % 2) 1) [
      | inl l ↦
          let even : n % 2 ≡ 0 = omega (arith, l) in
          let here : n ≡ 2 * (n / 2) = omega (arith, even) in
          let next : other ≡ 2 * (n / 2) + 1 = omega (arith, even, p.even even) in
          subst (λ (x : Node). IsBoth marks x (node_in nodes (2 * (n / 2) + 1)) both) (e ∙ ap (node_in nodes) here) (subst (λ (x : Node). IsBoth marks a x both) (f ∙ ap (node_in nodes) next) (first (is_even n even)))
      | inr l ↦
          let odd : n % 2 ≡ 1 = omega (arith, l) in
          let here : n ≡ 2 * (n / 2) + 1 = omega (arith, odd) in
          let before : other ≡ 2 * (n / 2) = omega (arith, odd, p.odd odd) in
          subst (λ (x : Node). IsBoth marks x (node_in nodes (2 * (n / 2) + 1)) both) (f ∙ ap (node_in nodes) before) (subst (λ (x : Node). IsBoth marks b x both) (e ∙ ap (node_in nodes) here) (second (is_odd n odd)))
    ]

there : (marks : List Mark) (a b n : Node) → IsBoth marks a b n → a.place < length marks → b.place < length marks → n.place < length marks
there marks a b n h l m = elim h.place [ inl p ↦ omega (arith, p.1, l) | inr p ↦ omega (arith, p.1, m) ]

pub loop-node-init : goal.loop-node-init
loop-node-init c =
    let marks : List Mark = c.args.marks.now in
    let nodes : List Node = c.args.nodes.now in
    let m : Mending marks nodes nodes c.args.place ((length marks + c.args.place) / 2) = begun marks nodes c.args.place c.requires.tree in
    let small : (length marks + c.args.place) / 2 < length marks = low _ _ _ _ _ m in
    let within : c.args.leaf < length nodes = omega (arith, small, m.leaves.long, c.requires.leaf) in
    record {
      mending = subst (λ (n : ℕ). Mending marks nodes nodes c.args.place (n / 2)) (sym c.requires.leaf) m;
      some = omega (arith, small, c.requires.leaf);
      within = within;
      below = search rules;
    }

pub both-both-requires-clause-this_rank : goal.both-both-requires-clause-this_rank
both-both-requires-clause-this_rank c =
    let i = c.loop-node.invariant in
    subst (IsRanked c.args.marks.now) (sym i.below)
    (ranked c.args.marks.now c.loop-node.nodes (c.loop-node.node / 2) c.loop-node.node i.mending.leaves i.mending.done (omega (arith, i.some)) i.within)

pub both-both-requires-clause-other_rank : goal.both-both-requires-clause-other_rank
both-both-requires-clause-other_rank c =
    let nodes : List Node = c.loop-node.nodes in
    let at : ℕ = c.loop-node.node / 2 in
    let i = c.loop-node.invariant in
    let pair : IsPairOf c.loop-node.node c.beside.result = record { even = c.beside.ensures.first; odd = c.beside.ensures.second } in
    let above : 2 * at ≤ c.beside.result = low_of_pair _ _ pair in
    let below : c.beside.result < length nodes = omega (arith, high_of_pair _ _ pair, low _ _ _ _ _ i.mending, i.mending.leaves.long) in
    ranked c.args.marks.now nodes at c.beside.result i.mending.leaves i.mending.done (omega (arith, above, c.loop-node-test.true)) below

pub returns-then-eq : goal.returns-then-eq
returns-then-eq c =
    let marks : List Mark = c.args.marks.now in
    let nodes : List Node = c.loop-node.nodes in
    let at : ℕ = c.loop-node.node / 2 in
    let i = c.loop-node.invariant in
    let pair : IsPairOf c.loop-node.node c.beside.result = record { even = c.beside.ensures.first; odd = c.beside.ensures.second } in
    let small : at < length marks = low _ _ _ _ _ i.mending in
    let both : IsBoth marks (node_in nodes (2 * at)) (node_in nodes (2 * at + 1)) c.both-both.result =
    told marks nodes c.loop-node.node c.beside.result c.loop-node.below (node_in nodes c.beside.result) c.both-both.result i.below refl pair c.both-both.ensures.first c.both-both.ensures.second in
    let same : node_in nodes at ≡ c.both-both.result = search rules in
    stopped marks c.args.nodes.now nodes c.args.place at c.both-both.result i.mending (omega (arith, c.loop-node-test.true)) both same c.if-both-place.true

pub loop-node-preserved : goal.loop-node-preserved
loop-node-preserved c =
    let marks : List Mark = c.args.marks.now in
    let nodes : List Node = c.loop-node.nodes in
    let at : ℕ = c.loop-node.node / 2 in
    let i = c.loop-node.invariant in
    let pair : IsPairOf c.loop-node.node c.beside.result = record { even = c.beside.ensures.first; odd = c.beside.ensures.second } in
    let small : at < length marks = low _ _ _ _ _ i.mending in
    let both : IsBoth marks (node_in nodes (2 * at)) (node_in nodes (2 * at + 1)) c.both-both.result =
    told marks nodes c.loop-node.node c.beside.result c.loop-node.below (node_in nodes c.beside.result) c.both-both.result i.below refl pair c.both-both.ensures.first c.both-both.ensures.second in
    let long : length (set nodes at c.both-both.result) ≡ length nodes = length-set nodes at c.both-both.result in
    let within : at < length nodes = omega (arith, small, i.mending.leaves.long) in
    record {
      mending =
          mended marks c.args.nodes.now nodes c.args.place at c.both-both.result i.mending (omega (arith, c.loop-node-test.true)) both
          (there marks _ _ _ both (i.mending.leaves.there (2 * at) (omega (arith, small, i.mending.leaves.long))) (i.mending.leaves.there (2 * at + 1) (omega (arith, small, i.mending.leaves.long))));
      some = omega (arith, c.loop-node-test.true);
      within = omega (arith, within, long);
      below = sym (get_or-set_same nodes at c.both-both.result no_node within);
    }

pub returns : goal.returns
returns c = ended c.args.marks.now c.args.nodes.now c.loop-node.nodes c.args.place (c.loop-node.node / 2) c.loop-node.invariant.mending (omega (arith, c.loop-node-test.false))
