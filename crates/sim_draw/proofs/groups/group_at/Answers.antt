use Rattle.std.proofs.Common.{arith, refl, ◌∙◌, sym, ap, ◌≡◌, ◌*◌, ◌/◌, ◌^◌}
use Rattle.sqs_model.specs.Draw.{first_past, total_weight}
use Rattle.sim_draw.proofs.Weights.{added_most, is_past, left_behind, none_past, one_added}
use Rattle.sim_draw.proofs.groups.group_at.Goals as goal

pub loop-group-init : goal.loop-group-init
loop-group-init c = record { added = record { whole = omega arith }; same = refl }

pub overflow_add-before : goal.overflow_add-before
overflow_add-before c =
    let added = one_added c.args.groups.now c.loop-group.group-index c.loop-group.before c.group-item.result c.loop-group-test.true c.group-item.is c.loop-group.invariant.added in
    omega (arith, added_most c.args.groups.now _ _ c.requires added)

pub returns-then-place-before : goal.returns-then-place-before
returns-then-place-before c =
    let past = is_past _ c.args.groups.now c.loop-group.group-index c.loop-group.before c.group-item.result c.loop-group-test.true c.group-item.is c.if-place-before.true c.loop-group.invariant in
    c.as_bytes.ensures ∙ rw (c.from.ensures, c.total_weight.ensures.sum) at past

pub loop-group-preserved : goal.loop-group-preserved
loop-group-preserved c =
    left_behind _ c.args.groups.now c.loop-group.group-index c.loop-group.before c.group-item.result c.loop-group-test.true c.group-item.is (omega (arith, c.if-place-before.false)) c.loop-group.invariant

pub returns : goal.returns
returns c =
    let none = none_past _ c.args.groups.now c.loop-group.group-index c.loop-group.before (omega (arith, c.loop-group-test.false)) c.loop-group.invariant in
    rw (c.from.ensures, c.total_weight.ensures.sum) at none
