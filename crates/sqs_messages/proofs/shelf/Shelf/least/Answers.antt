use Rattle.std.proofs.Common.{ap, map, ◌∙◌}
use Rattle.sim_index.specs.Marks.{least_of}
use Rattle.sqs_messages.specs.Slots.{Holding}
use Rattle.sqs_messages.proofs.Marked.{least_shelved}
use Rattle.sqs_messages.proofs.shelf.Shelf.least.Goals as goal

pub returns : goal.returns
returns c =
    c.least_due.ensures
    ∙ least_shelved c.self.inside.slots.values c.self.inside.slots.marks c.self.invariant.places.named
    ∙ ap (λ (h : Holding). least_of (map (λ s. s.mark) h.items)) c.self.view_is
