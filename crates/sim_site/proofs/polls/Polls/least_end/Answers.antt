use Rattle.std.proofs.Common.{ap, map, ◌∙◌}
use Rattle.sim_clock.specs.Order.{least}
use Rattle.sqs_model.specs.Dues.{poll_key}
use Rattle.sim_site.proofs.Ending.{marked_ends}
use Rattle.sim_site.proofs.polls.Polls.least_end.Goals as goal

pub returns : goal.returns
returns c = c.least_due.ensures ∙ marked_ends c.self.inside.places c.self.invariant.marked ∙ ap (λ ps. least (map poll_key ps)) c.self.view_is
