use Rattle.std.proofs.Common.{ap, sym, ◌∙◌}
use Rattle.sqs_messages.specs.Heads.{told}
use Rattle.sqs_messages.specs.Slots.{Holding, standing}
use Rattle.sqs_messages.proofs.Marked.{told_shelved}
use Rattle.sqs_messages.proofs.shelf.Shelf.iter.Goals as goal

pub returns : goal.returns
returns c =
    c.messages_in.ensures
    ∙ ap standing c.values.ensures.values
    ∙ sym (told_shelved c.self.inside.slots.values c.self.inside.slots.marks c.self.invariant.places.named)
    ∙ ap (λ (h : Holding). told h.items) c.self.view_is
