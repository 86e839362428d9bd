use Rattle.std.proofs.Common.{◌<◌, subst}
use Rattle.std.specs.Prelude.{All}
use Rattle.sqs_model.specs.Progress.{Ascends}
use Rattle.sqs_messages.specs.Slots.{Holding, Shelved, number_of}
use Rattle.sqs_messages.proofs.Wanted.{shelf_ascends, shelf_below}
use Rattle.sqs_messages.proofs.shelf.Shelf.number.Goals as goal

pub returns-clause-ordered : goal.returns-clause-ordered
returns-clause-ordered c = subst (λ (h : Holding). Ascends number_of 0 h.items) c.self.view_is (shelf_ascends c.self.inside.slots c.self.inside.next c.self.invariant.places)

pub returns-clause-below : goal.returns-clause-below
returns-clause-below c =
    subst (λ (h : Holding). All (λ (s : Shelved). number_of s < h.next) h.items) c.self.view_is (shelf_below c.self.inside.slots c.self.inside.next c.self.invariant.places)
