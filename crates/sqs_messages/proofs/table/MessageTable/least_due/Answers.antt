use Rattle.std.proofs.Common.{ap, ◌∙◌}
use Rattle.sim_clock.specs.Order.{least}
use Rattle.sqs_model.specs.Dues.{queue_dues}
use Rattle.sqs_model.specs.Queue.{Queue}
use Rattle.sqs_messages.proofs.Dues.{least_marked}
use Rattle.sqs_messages.proofs.table.MessageTable.least_due.Goals as goal

pub returns : goal.returns
returns c = c.least.ensures ∙ least_marked c.self.inside.site c.self.inside.settings.retention c.self.inside.shelf.items c.self.invariant.dues ∙ ap (λ (q : Queue). least (queue_dues q)) c.self.view_is
