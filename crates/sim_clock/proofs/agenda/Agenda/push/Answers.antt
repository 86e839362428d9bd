use Rattle.std.proofs.Common.{◌∙◌, ap, heap_items}
use Rattle.sim_clock.specs.Order.{key_cmp_total, inserted}
use Rattle.sim_clock.proofs.HeapOrder.{keeps_heap}
use Rattle.sim_clock.proofs.Least.{key_tied}
use Rattle.sim_clock.proofs.Sorted.{sorted_pushed}
use Rattle.sim_clock.proofs.agenda.Agenda.push.Goals as goal

pub invariant_of-self-2 : goal.invariant_of-self-2
invariant_of-self-2 c = keeps_heap _ _ c.in_ok-push.ensures.heap_order c.self.invariant

pub returns-clause-added : goal.returns-clause-added
returns-clause-added c =
    let old = heap_items c.self.inside.heap in
    sorted_pushed key_cmp_total key_tied (λ entry. entry.0) _ old _ c.in_ok-push.ensures.permutation
    ∙ ap (inserted c.args.key) c.self.view_is
