use Rattle.std.proofs.Common.{ap, subst, ◌∙◌}
use Rattle.std.specs.List.{list_any}
use Rattle.sim_index.specs.Marks.{meets}
use Rattle.sqs_model.specs.Progress.{Ascends}
use Rattle.sqs_messages.specs.Slots.{Holding, number_of}
use Rattle.sqs_messages.proofs.Marked.{any_shelved}
use Rattle.sqs_messages.proofs.Wanted.{shelf_ascends}
use Rattle.sqs_messages.proofs.shelf.Shelf.has_on.Goals as goal

pub returns-clause-told : goal.returns-clause-told
returns-clause-told c =
    c.has_on.ensures
    ∙ any_shelved c.args.hosts c.self.inside.slots.values c.self.inside.slots.marks c.self.invariant.places.named
    ∙ ap (λ (h : Holding). list_any (λ s. meets c.args.hosts s.mark) h.items) c.self.view_is

pub returns-clause-ordered : goal.returns-clause-ordered
returns-clause-ordered c = subst (λ (h : Holding). Ascends number_of 0 h.items) c.self.view_is (shelf_ascends c.self.inside.slots c.self.inside.next c.self.invariant.places)
