use Rattle.std.proofs.Common.{sym, refl}
use Rattle.sim_report.specs.Doors.{came_on}
use Rattle.sim_report.proofs.Groups.{changed-past, changed-set}
use Rattle.sim_report.proofs.doors.come_on.Goals as goal

pub returns-in_ok-come_on : goal.returns-in_ok-come_on
returns-in_ok-come_on c =
    let change = changed-set (came_on c.args.first) c.args.queue c.args.queues.now c.index-queues-queue.result c.if-queue-queues.true in
    let taken = c.in_ok-come_on.ensures in
    rw (change, taken, c.index-queues-queue.is) refl

pub returns-else-queue-queues : goal.returns-else-queue-queues
returns-else-queue-queues c = sym (changed-past (came_on c.args.first) c.args.queue c.args.queues.now c.if-queue-queues.false)
