use Rattle.std.proofs.Common.{subst, ap, ℕ}
use Rattle.std.specs.Prelude.{option_map}
use Rattle.sim_actor.specs.Lives.{answer_of}
use Rattle.sqs_model.specs.Limits.{PassesCount}
use Rattle.sqs_model.specs.Polls.{acts_most}
use Rattle.sqs_model.specs.declared.acts.Answer.{Answer}
use Rattle.sqs_model.specs.declared.acts.Answer.TheVariants.{Wake}
use Rattle.sqs_model.specs.Site.{Core, actor_numbered}
use Rattle.sqs_model.specs.Step.{woken_by}
use Rattle.sim_site.specs.Effects.{Did, Does, GoesOn}
use Rattle.sim_site.proofs.Passing.{stops_up}
use Rattle.sim_site.proofs.Recent.{taken_recent}
use Rattle.sim_site.proofs.Turns.{turn_ends, turn_goes, turn_limited}
use Rattle.sim_site.proofs.state.Core.handle_wake.Goals as goal

-- what the actor is told that wakes
abbrev wake_of : ℕ → Core → Answer
wake_of n c = Wake (woken_by c (actor_numbered n c))

pub returns-in_default : goal.returns-in_default
returns-in_default c =
    let handling = c.args.handling.now in
    let mid = c.first_turn.new.handling in
    subst (λ n. GoesOn handling mid × Did handling.effects.now mid.effects.now c.first_turn.new.self (acts_most 3 handling.key n (wake_of n c.args.self.now) c.args.self.now)) c.requires.agent
    (turn_ends handling mid 2 (wake_of handling.agent c.args.self.now) c.args.self.now c.first_turn.new.self _ c.in_ok-reply.ensures (ap (option_map answer_of) c.in_default.is))

pub returns : goal.returns
returns c =
    let handling = c.args.handling.now in
    subst (λ n. Does c.last_turns.result handling c.last_turns.new.handling c.last_turns.new.self (acts_most 3 handling.key n (wake_of n c.args.self.now) c.args.self.now)) c.requires.agent
    (turn_goes handling c.first_turn.new.handling 2 (wake_of handling.agent c.args.self.now) c.args.self.now c.first_turn.new.self _ c.in_ok-reply.ensures
    c.last_turns.result c.last_turns.new.handling (answer_of c.in-Some.reply) c.last_turns.new.self (ap (option_map answer_of) c.in-Some.is) c.last_turns.ensures)

pub last_turns-requires : goal.last_turns-requires
last_turns-requires c =
    taken_recent c.args.handling.now c.first_turn.new.handling (wake_of c.args.handling.now.agent c.args.self.now) c.args.self.now c.first_turn.new.self _ c.in_ok-reply.ensures c.requires.recent

pub returns-in_err-reply : goal.returns-in_err-reply
returns-in_err-reply c =
    let handling = c.args.handling.now in
    stops_up _ _ (PassesCount (acts_most 3 handling.key handling.key.agent (wake_of handling.key.agent c.args.self.now) c.args.self.now)) c.from_residual.result c.in_err-reply.field-0.0 c.from_residual.ensures.1
    (λ h. subst (λ n. PassesCount (acts_most 3 handling.key n (wake_of n c.args.self.now) c.args.self.now)) c.requires.agent (turn_limited handling.key handling.agent 2 (wake_of handling.agent c.args.self.now) c.args.self.now h)) c.in_err-reply.ensures
