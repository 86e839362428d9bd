use Rattle.std.proofs.Common.{sym, refl}
use Rattle.sim_report.specs.Doors.{ended}
use Rattle.sim_report.proofs.Groups.{changed-past, changed-set}
use Rattle.sim_report.proofs.doors.end.Goals as goal

pub returns-in_ok-end : goal.returns-in_ok-end
returns-in_ok-end c =
    let change = changed-set (ended c.args.wanted c.args.number c.args.at) c.args.queue c.args.queues.now c.index-queues-queue.result c.if-queue-queues.true in
    let taken = c.in_ok-end.ensures in
    rw (change, taken, c.index-queues-queue.is) refl

pub returns-else-queue-queues : goal.returns-else-queue-queues
returns-else-queue-queues c = sym (changed-past (ended c.args.wanted c.args.number c.args.at) c.args.queue c.args.queues.now c.if-queue-queues.false)
