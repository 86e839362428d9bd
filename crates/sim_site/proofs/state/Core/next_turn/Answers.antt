use Rattle.std.proofs.Common.{subst}
use Rattle.sim_actor.specs.Lives.{answer_of}
use Rattle.sqs_model.specs.Limits.{PassesCount}
use Rattle.sqs_model.specs.Site.{Core, actor_numbered}
use Rattle.sim_site.specs.Turns.{turn_of}
use Rattle.sim_site.specs.contracts.state.Core.{the_view}
use Rattle.sim_site.proofs.Deciding.{turn_passes}
use Rattle.sim_site.proofs.Passing.{stops_up}
use Rattle.sim_site.proofs.state.Core.next_turn.Goals as goal

pub returns-in_err-follow_up : goal.returns-in_err-follow_up
returns-in_err-follow_up c =
    let key = c.args.handling.now.key in
    let agent = c.args.handling.now.agent in
    let answer = answer_of c.args.reply in
    stops_up _ _ (PassesCount (turn_of key answer c.args.self.now (actor_numbered agent c.args.self.now)).effect) c.from_residual.result c.in_err-follow_up.field-0.0 c.from_residual.ensures.1
    (λ h. subst (λ (x : Core). PassesCount (turn_of key answer x (actor_numbered agent x)).effect) c.self.view_is
    (turn_passes key agent answer (the_view c.self.inside) c.in-Some.place c.in-Some.ensures h)) c.in_err-follow_up.ensures.stops
