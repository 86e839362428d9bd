use Rattle.std.proofs.Common.{arith, refl}
use Rattle.sim_draw.proofs.Weights.{added_most, all_added, one_added, total_most}
use Rattle.sim_draw.proofs.groups.total_weight.Goals as goal

pub loop-group-init : goal.loop-group-init
loop-group-init c = record { whole = omega arith }

pub overflow_add-total : goal.overflow_add-total
overflow_add-total c =
    let added = one_added c.args.groups.now c.loop-group.group-index c.loop-group.total c.group-item.result c.loop-group-test.true c.group-item.is c.loop-group.invariant in
    omega (arith, added_most c.args.groups.now _ _ c.requires added)

pub loop-group-preserved : goal.loop-group-preserved
loop-group-preserved c = one_added c.args.groups.now c.loop-group.group-index c.loop-group.total c.group-item.result c.loop-group-test.true c.group-item.is c.loop-group.invariant

pub returns-clause-sum : goal.returns-clause-sum
returns-clause-sum c = all_added c.args.groups.now c.loop-group.group-index c.loop-group.total (omega (arith, c.loop-group-test.false)) c.loop-group.invariant

pub returns-clause-greatest : goal.returns-clause-greatest
returns-clause-greatest c = added_most c.args.groups.now c.loop-group.group-index c.loop-group.total c.requires c.loop-group.invariant
