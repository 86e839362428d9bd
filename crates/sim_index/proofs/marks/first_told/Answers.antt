use Rattle.std.proofs.Common.{arith, ◌*◌, ◌+◌, ◌≤◌}
use Rattle.sim_index.specs.Marks.{bare}
use Rattle.sim_index.proofs.Trees.{long_bare}
use Rattle.sim_index.proofs.Told.{IsFirstTold, below_near, power_some, told_below, told_leaf, told_root}
use Rattle.sim_index.proofs.marks.first_told.Goals as goal

pub loop-node-init : goal.loop-node-init
loop-node-init c = record { some = omega arith; within = omega (arith, power_some c.args.width c.requires.power); first = told_root (bare c.args.nodes.now) c.args.flags c.requires.told }

pub loop-node-preserved : goal.loop-node-preserved
loop-node-preserved c =
    let next : IsFirstTold (bare c.args.nodes.now) c.args.flags c.first_below-node.result =
    told_below (bare c.args.nodes.now) c.args.flags c.requires.pairs c.loop-node.node c.first_below-node.result c.loop-node.invariant.some (omega (arith, c.loop-node-test.true, c.requires.within, long_bare c.args.nodes.now)) c.loop-node.invariant.first c.first_below-node.ensures in
    let least : c.first_below-node.result ≤ 2 * c.loop-node.node + 1 = below_near (bare c.args.nodes.now) c.args.flags c.loop-node.node c.first_below-node.result c.first_below-node.ensures in
    record { some = omega (arith, next.from, next.within); within = omega (arith, least, c.loop-node-test.true); first = next }

pub returns : goal.returns
returns c =
    told_leaf (bare c.args.nodes.now) c.args.flags c.args.width c.loop-node.node c.requires.power (omega (arith, c.loop-node-test.false)) c.loop-node.invariant.within c.loop-node.invariant.first
