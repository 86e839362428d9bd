use Rattle.std.proofs.Common.{ap, ◌∙◌}
use Rattle.sqs_model.specs.Queue.{Queue, numbered}
use Rattle.sqs_messages.proofs.Calls.{read_counted}
use Rattle.sqs_messages.proofs.Grouped.{find_told}
use Rattle.sqs_messages.proofs.table.MessageTable.find.Goals as goal

pub returns-clause-found : goal.returns-clause-found
returns-clause-found c = c.get.ensures ∙ find_told c.args.number c.self.inside.shelf.items ∙ ap (λ (q : Queue). numbered c.args.number q.records) c.self.view_is

pub returns-clause-counted : goal.returns-clause-counted
returns-clause-counted c = read_counted c.self.inside.site c.self.inside.settings.retention c.args.number c.self.inside.shelf.items c.get.result c.get.ensures c.self.invariant.dues
