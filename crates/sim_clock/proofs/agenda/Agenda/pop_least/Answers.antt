use Rattle.std.proofs.Common.{◌∙◌, ◌<◌, ap, sym, heap_items, length, rules}
use Rattle.sim_clock.specs.Order.{key_cmp_total, least}
use Rattle.sim_clock.proofs.HeapOrder.{is_bound, keeps_heap}
use Rattle.sim_clock.proofs.Least.{key_tied}
use Rattle.sim_clock.proofs.Sorted.{sorted_least, sorted_popped}
use Rattle.sim_clock.proofs.agenda.Agenda.pop_least.Goals as goal

pub invariant_of-self-2 : goal.invariant_of-self-2
invariant_of-self-2 c = keeps_heap _ _ (λ h. (c.in_ok-key.ensures.heap_order h).0) c.self.invariant

pub returns-clause-rest : goal.returns-clause-rest
returns-clause-rest c =
    let old = heap_items c.self.inside.heap in
    let bound = is_bound old _ _ c.in_ok-key.ensures.below_top c.self.invariant in
    sym c.self.view_is
    ∙ sorted_popped key_cmp_total key_tied (λ entry. entry.0) old c.in_ok-key.field-0 _ c.in_ok-key.ensures.permutation bound

pub returns-clause-least : goal.returns-clause-least
returns-clause-least c =
    let old = heap_items c.self.inside.heap in
    let some : 0 < length old = search rules in
    let bound = is_bound old _ _ (λ h. (c.in_ok-key.ensures.heap_order h).1) c.self.invariant in
    sym (sorted_least key_cmp_total key_tied (λ entry. entry.0) c.in_ok-key.field-0 old some c.in_ok-key.ensures.top bound)
    ∙ ap least c.self.view_is
