use Rattle.std.proofs.Common.{subst, ◌∙◌}
use Rattle.std.specs.Prelude.{List, MatchOption}
use Rattle.sqs_model.specs.Actor.{Actor}
use Rattle.sim_clock.specs.Places.{IsAbsent, Stands, place_from_position}
use Rattle.sqs_model.specs.Site.{is_actor}
use Rattle.sim_site.proofs.actors.Actors.search.Goals as goal

pub returns-then-not-self : goal.returns-then-not-self
returns-then-not-self c =
    subst (λ (actors : List Actor). MatchOption c.found_in_order.result (IsAbsent (is_actor c.args.number) actors) (Stands (is_actor c.args.number) actors)) c.self.view_is
    (place_from_position (is_actor c.args.number) c.self.inside.list.values _ c.found_in_order.ensures)

pub returns-else-self : goal.returns-else-self
returns-else-self c =
    subst (λ (actors : List Actor). MatchOption c.first_actor.result (IsAbsent (is_actor c.args.number) actors) (Stands (is_actor c.args.number) actors)) (c.values.ensures.values ∙ c.self.view_is)
    (place_from_position (is_actor c.args.number) c.values.result.now _ c.first_actor.ensures)
