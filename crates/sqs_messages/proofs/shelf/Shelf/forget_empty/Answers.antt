use Rattle.std.proofs.Common.{ap, sym, ◌∙◌}
use Rattle.sqs_messages.specs.Slots.{Holding, shelved}
use Rattle.sqs_messages.proofs.Counting.{none_left}
use Rattle.sqs_messages.proofs.Pushed.{unmarked}
use Rattle.sqs_messages.proofs.shelf.Shelf.forget_empty.Goals as goal

pub clear-requires : goal.clear-requires
clear-requires c =
    let list = c.self.inside.slots in
    unmarked list.values list.marks c.self.invariant.places.named (none_left (shelved list.values list.marks) c.self.inside.counts c.self.invariant.counted (sym c.eq.ensures ∙ c.if-eq.true))

pub returns-then-eq-clause-items : goal.returns-then-eq-clause-items
returns-then-eq-clause-items c =
    let list = c.self.inside.slots in
    (λ j. shelved (c.clear.ensures.values j) (c.clear.ensures.marks j))
    ∙ sym (none_left (shelved list.values list.marks) c.self.inside.counts c.self.invariant.counted (sym c.eq.ensures ∙ c.if-eq.true))
    ∙ ap (λ (h : Holding). h.items) c.self.view_is
