use Rattle.std.proofs.Common.{sym, refl}
use Rattle.sim_report.specs.Doors.{set_out}
use Rattle.sim_report.proofs.Groups.{changed-past, changed-set}
use Rattle.sim_report.proofs.doors.set_out.Goals as goal

pub returns-in_ok-set_out : goal.returns-in_ok-set_out
returns-in_ok-set_out c =
    let change = changed-set set_out c.args.queue c.args.queues.now c.index-queues-queue.result c.if-queue-queues.true in
    let taken = c.in_ok-set_out.ensures in
    rw (change, taken, c.index-queues-queue.is) refl

pub returns-else-queue-queues : goal.returns-else-queue-queues
returns-else-queue-queues c = sym (changed-past set_out c.args.queue c.args.queues.now c.if-queue-queues.false)
