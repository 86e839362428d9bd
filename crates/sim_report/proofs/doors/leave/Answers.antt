use Rattle.std.proofs.Common.{sym, refl}
use Rattle.sim_report.specs.Doors.{left}
use Rattle.sim_report.proofs.Groups.{changed-past, changed-set}
use Rattle.sim_report.proofs.doors.leave.Goals as goal

pub returns-in_ok-leave : goal.returns-in_ok-leave
returns-in_ok-leave c =
    let change = changed-set left c.args.queue c.args.queues.now c.index-queues-queue.result c.if-queue-queues.true in
    let taken = c.in_ok-leave.ensures in
    rw (change, taken, c.index-queues-queue.is) refl

pub returns-else-queue-queues : goal.returns-else-queue-queues
returns-else-queue-queues c = sym (changed-past left c.args.queue c.args.queues.now c.if-queue-queues.false)
