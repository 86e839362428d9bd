use Rattle.std.proofs.Common.{subst}
use Rattle.sqs_model.specs.Queue.{Queue}
use Rattle.sqs_messages.specs.Stored.{IsStored}
use Rattle.sqs_messages.proofs.Calls.{stored_of}
use Rattle.sqs_messages.proofs.table.MessageTable.iter.Goals as goal

pub returns-clause-stored : goal.returns-clause-stored
returns-clause-stored c =
    let inside = c.self.inside in
    subst (λ (q : Queue). IsStored q.records q.arrivals) c.self.view_is (stored_of inside.site inside.settings.retention inside.shelf.next inside.shelf.items c.self.invariant.dues c.number-next.ensures.ordered c.number-next.ensures.below)
