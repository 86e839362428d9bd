use Rattle.std.proofs.Common.{ap, flat_map, ◌∙◌}
use Rattle.sim_clock.specs.Order.{least}
use Rattle.sim_index.specs.Marked.{Marked}
use Rattle.sim_index.specs.Marks.{least_of}
use Rattle.sqs_model.specs.Actor.{Actor}
use Rattle.sqs_model.specs.Dues.{actor_dues}
use Rattle.sim_site.specs.Marked.{brought_up}
use Rattle.sim_site.proofs.Marked.{brought_values, marked_wakes}
use Rattle.sim_site.proofs.actors.Actors.least_wake.Goals as goal

pub returns-clause-wake : goal.returns-clause-wake
returns-clause-wake c =
    c.least.ensures ∙ ap (λ (s : Marked Actor). least_of s.marks) c.bring_up.ensures ∙ marked_wakes (brought_up c.self.inside.told c.self.inside.list) (c.self.invariant.marked c.if-self.false)
    ∙ ap (λ xs. least (flat_map actor_dues xs)) (brought_values c.self.inside.told c.self.inside.list ∙ c.self.view_is)
