use Rattle.std.proofs.Common.{sym, refl}
use Rattle.sim_report.specs.Figured.{queue_with}
use Rattle.sim_report.proofs.Groups.{changed-past, changed-set}
use Rattle.sim_report.proofs.figures.take_at_queue.Goals as goal

pub returns-in_ok-take : goal.returns-in_ok-take
returns-in_ok-take c =
    let queues = c.args.queues.now in
    let fact = c.args.fact.now in
    let change = changed-set (queue_with c.args.place c.args.wanted fact) fact.count.queue queues c.index-queues-queue.result c.if-queue-queues.true in
    let taken = c.in_ok-take.ensures in
    rw (change, taken, c.index-queues-queue.is) refl

pub returns-else-queue-queues : goal.returns-else-queue-queues
returns-else-queue-queues c = sym (changed-past (queue_with c.args.place c.args.wanted c.args.fact.now) c.args.fact.now.count.queue c.args.queues.now c.if-queue-queues.false)
