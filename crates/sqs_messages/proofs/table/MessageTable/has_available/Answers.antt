use Rattle.std.proofs.Common.{ap, not, ◌∙◌}
use Rattle.std.specs.List.{list_any}
use Rattle.sim_clock.specs.Firsts.{is_empty}
use Rattle.sim_index.specs.Marks.{meets}
use Rattle.sqs_model.specs.Available.{available}
use Rattle.sqs_model.specs.Queue.{Queue}
use Rattle.sqs_messages.proofs.Orders.{any_by}
use Rattle.sqs_messages.proofs.table.MessageTable.has_available.Goals as goal

pub returns : goal.returns
returns c =
    let inside = c.self.inside in
    c.has_on.ensures.told
    ∙ ap (λ n. list_any (λ s. meets n s.mark) inside.shelf.items) c.hosts.ensures
    ∙ any_by inside.settings.kind inside.order c.args.hosts inside.shelf.next inside.shelf.items c.self.invariant.order_of c.self.invariant.ordered c.has_on.ensures.ordered
    ∙ ap (λ (q : Queue). not (is_empty (available q c.args.hosts))) c.self.view_is
