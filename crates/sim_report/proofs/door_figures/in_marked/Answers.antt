use Rattle.std.proofs.Common.{◌∙◌, ap, arith}
use Rattle.std.specs.Prelude.{sum_by}
use Rattle.sim_report.specs.Doors.{in_marked}
use Rattle.sim_report.proofs.Numbering.{all-taken, sum-further}
use Rattle.sim_report.proofs.door_figures.in_marked.Goals as goal

pub loop-queue-preserved : goal.loop-queue-preserved
loop-queue-preserved c =
    let further = sum-further (in_marked c.args.marks.now) c.args.doors.now c.loop-queue.queue c.index-doors-queue.result c.loop-queue-test.true in
    rw (further, c.index-doors-queue.is) grind (arith, c.in_ok-sum.ensures, c.in_ok-marked_in.ensures, c.loop-queue.invariant)

pub returns : goal.returns
returns c = c.loop-queue.invariant ∙ ap (sum_by (in_marked c.args.marks.now)) (all-taken c.args.doors.now c.loop-queue.queue (omega (arith, c.loop-queue-test.false)))
