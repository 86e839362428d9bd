use Rattle.std.proofs.Common.{sym, refl}
use Rattle.sim_report.specs.Running.{with_count}
use Rattle.sim_report.proofs.Groups.{changed-past, changed-set}
use Rattle.sim_report.proofs.queue.add_count.Goals as goal

pub returns-in_ok-count : goal.returns-in_ok-count
returns-in_ok-count c =
    let queues = c.args.queues.now in
    let count = c.args.count in
    let change = changed-set (with_count count) count.queue queues c.index-queues-place.result c.if-place-queues.true in
    let counted = c.in_ok-count.ensures in
    rw (change, counted, c.index-queues-place.is) refl

pub returns-else-place-queues : goal.returns-else-place-queues
returns-else-place-queues c = sym (changed-past (with_count c.args.count) c.args.count.queue c.args.queues.now c.if-place-queues.false)
