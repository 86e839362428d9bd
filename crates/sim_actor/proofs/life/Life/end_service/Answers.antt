use Rattle.std.proofs.Common.{Bool, Err, ap, arith, rules, ◌∙◌, ◌∷◌, ◌≡◌, ◌≤◌}
use Rattle.sim_clock.specs.declared.refusal.Refusal.{Refusal}
use Rattle.sim_clock.specs.declared.refusal.Refusal.TheVariants as refusals
use Rattle.sqs_model.specs.declared.acts.Act.{Act}
use Rattle.sqs_model.specs.Actor.{Actor, ends_by, outcome}
use Rattle.sqs_model.specs.Draw.{Draws}
use Rattle.sqs_model.proofs.ConsumerWakes.{ends_words}
use Rattle.sim_actor.specs.Lives.{Decides, Drawn, Life, lived}
use Rattle.sim_actor.proofs.life.Life.end_service.Goals as goal

-- an end of a service counts past the limit if the draw of its outcome does
past_outcome : (e : Refusal) (new : Draws) (after : Actor) (drawn : Bool × Draws) (model : Act × Actor) → Drawn (Err e) new drawn → drawn.1.taken ≤ model.1.draws.taken → Decides (Err e) after model
past_outcome refusals.CountLimit new after drawn model h more = omega (arith, h, more)
past_outcome e new after drawn model h more = absurd h

pub returns-in_err-failed-clause-decision : goal.returns-in_err-failed-clause-decision
returns-in_err-failed-clause-decision c s g gs at_home held =
    let whole : Actor = record (lived s c.args.self.now) { held = g ∷ gs } in
    let drawn : Bool × Draws = outcome c.args.consumer.now.fail_service whole c.args.consumer.now c.args.now in
    let ended = ends_words c.args.now c.args.consumer.now (record (lived s c.args.self.now) { held = gs }) g drawn in
    let past = past_outcome _ _ (lived s c.outcome.new.self) drawn (ends_by (record (lived s c.args.self.now) { held = gs }) c.args.consumer.now c.args.now g drawn) (rw held at c.in_err-failed.ensures.outcome s) ended in
    search rules

pub returns-clause-decision : goal.returns-clause-decision
returns-clause-decision c s g gs at_home held =
    let drew = c.in_ok-failed.ensures in
    let drawn = rw held at drew.outcome s in
    let still : c.outcome.new.self.held ≡ g ∷ gs = ap (λ (l : Life). l.held) drew.framed ∙ held in
    let ended = c.end_as.ensures.decision s g gs at_home still in
    rw drawn (rw drew.framed at ended)
