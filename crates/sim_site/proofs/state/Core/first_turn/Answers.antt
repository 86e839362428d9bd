use Rattle.std.proofs.Common.{subst}
use Rattle.sqs_model.specs.Limits.{PassesCount}
use Rattle.sqs_model.specs.Site.{Core, actor_numbered}
use Rattle.sqs_model.specs.declared.acts.Answer.{Answer}
use Rattle.sqs_model.specs.declared.acts.Answer.TheVariants.{Wake}
use Rattle.sqs_model.specs.Step.{woken_by}
use Rattle.sim_site.specs.Turns.{turn_of}
use Rattle.sim_site.specs.contracts.state.Core.{the_view}
use Rattle.sim_site.proofs.Deciding.{turn_passes}
use Rattle.sim_site.proofs.Passing.{stops_up}
use Rattle.sim_site.proofs.state.Core.first_turn.Goals as goal

pub returns-in_err-act : goal.returns-in_err-act
returns-in_err-act c =
    let key = c.args.handling.now.key in
    let agent = c.args.handling.now.agent in
    let wake : Answer = Wake (woken_by c.args.self.now (actor_numbered agent c.args.self.now)) in
    stops_up _ _ (PassesCount (turn_of key wake c.args.self.now (actor_numbered agent c.args.self.now)).effect) c.from_residual.result c.in_err-act.field-0.0 c.from_residual.ensures.1
    (λ h. subst (λ (x : Core). PassesCount (turn_of key wake x (actor_numbered agent x)).effect) c.self.view_is
    (turn_passes key agent wake (the_view c.self.inside) c.in-Some.place c.in-Some.ensures h)) (rw c.standing_at-standing.ensures at c.in_err-act.ensures.stops)
