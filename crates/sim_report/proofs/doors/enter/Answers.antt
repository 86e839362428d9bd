use Rattle.std.proofs.Common.{sym, refl}
use Rattle.sim_report.specs.Doors.{entered}
use Rattle.sim_report.proofs.Groups.{changed-past, changed-set}
use Rattle.sim_report.proofs.doors.enter.Goals as goal

pub returns-in_ok-enter : goal.returns-in_ok-enter
returns-in_ok-enter c =
    let change = changed-set (entered c.args.first) c.args.queue c.args.queues.now c.index-queues-queue.result c.if-queue-queues.true in
    let taken = c.in_ok-enter.ensures in
    rw (change, taken, c.index-queues-queue.is) refl

pub returns-else-queue-queues : goal.returns-else-queue-queues
returns-else-queue-queues c = sym (changed-past (entered c.args.first) c.args.queue c.args.queues.now c.if-queue-queues.false)
