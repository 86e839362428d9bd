use Rattle.std.proofs.Common.{List, arith, length, refl, subst, sym, ◌*◌, ◌+◌, ◌-◌, ◌≡◌, ℕ}
use Rattle.std.proofs.lemmas.List.{get_or_read_under}
use Rattle.sim_index.specs.declared.marks.Node.{Node}
use Rattle.sim_index.specs.Marks.{IsRanked, no_node, node_in}
use Rattle.sim_index.proofs.Mends.{ranked}
use Rattle.sim_index.proofs.marks.write_above.Goals as goal

pub both-both-requires-clause-this_rank : goal.both-both-requires-clause-this_rank
both-both-requires-clause-this_rank c =
    let nodes : List Node = c.loop-i.nodes.items in
    let at : ℕ = c.loop-i.i - 1 in
    let i = c.loop-i.invariant in
    let read : c.index.result.now ≡ node_in nodes (2 * at) = get_or_read_under nodes (2 * at) (length nodes) c.index.result.now no_node c.index.ensures (omega (arith, i.leaves.long, c.loop-i.auto.i, c.loop-i-test.true)) refl in
    subst (IsRanked c.args.marks.now) (sym read) (ranked c.args.marks.now nodes at (2 * at) i.leaves (λ j l. i.done j (omega (arith, l))) (omega (arith, c.loop-i-test.true)) (omega (arith, i.leaves.long, c.loop-i.auto.i, c.loop-i-test.true)))

pub both-both-requires-clause-other_rank : goal.both-both-requires-clause-other_rank
both-both-requires-clause-other_rank c =
    let nodes : List Node = c.loop-i.nodes.items in
    let at : ℕ = c.loop-i.i - 1 in
    let i = c.loop-i.invariant in
    let read : c.index-in-loop-i.result.now ≡ node_in nodes (2 * at + 1) = get_or_read_under nodes (2 * at + 1) (length nodes) c.index-in-loop-i.result.now no_node c.index-in-loop-i.ensures (omega (arith, i.leaves.long, c.loop-i.auto.i, c.loop-i-test.true)) refl in
    subst (IsRanked c.args.marks.now) (sym read) (ranked c.args.marks.now nodes at (2 * at + 1) i.leaves (λ j l. i.done j (omega (arith, l))) (omega (arith, c.loop-i-test.true)) (omega (arith, i.leaves.long, c.loop-i.auto.i, c.loop-i-test.true)))
