use Rattle.std.proofs.Common.{◌∙◌, ◌<◌, ap, sym, heap_items, length, rules}
use Rattle.sim_clock.specs.Order.{key_cmp_total, least}
use Rattle.sim_clock.proofs.HeapOrder.{is_bound}
use Rattle.sim_clock.proofs.Least.{key_tied}
use Rattle.sim_clock.proofs.Sorted.{sorted_least}
use Rattle.sim_clock.proofs.agenda.Agenda.peek.Goals as goal

pub returns : goal.returns
returns c =
    let items = heap_items c.self.inside.heap in
    let top = c.in_ok-key.field-0.now in
    let some : 0 < length items = search rules in
    let bound = is_bound items _ _ c.in_ok-key.ensures.greatest c.self.invariant in
    sym (sorted_least key_cmp_total key_tied (λ entry. entry.0) top items some c.in_ok-key.ensures.lookup bound)
    ∙ ap least c.self.view_is
