use Rattle.std.proofs.Common.{ap}
use Rattle.sim_actor.specs.Lives.{answer_of}
use Rattle.sqs_model.specs.Limits.{PassesCount}
use Rattle.sqs_model.specs.Polls.{acts_most}
use Rattle.sqs_model.specs.declared.acts.Answer.TheVariants.{Other}
use Rattle.sim_site.specs.Turns.{answer_if}
use Rattle.sim_site.proofs.Passing.{stops_up}
use Rattle.sim_site.proofs.Recent.{taken_recent}
use Rattle.sim_site.proofs.Turns.{turn_ends, turn_goes, turn_limited}
use Rattle.sim_site.proofs.state.Core.told.Goals as goal

pub returns-then-not-acted : goal.returns-then-not-acted
returns-then-not-acted c =
    turn_ends c.args.handling.now c.next_turn.new.handling 2 (answer_of c.args.reply) c.args.self.now c.next_turn.new.self _ c.in_ok-acted.ensures (ap answer_if c.if-not-acted.true)

pub returns : goal.returns
returns c =
    turn_goes c.args.handling.now c.next_turn.new.handling 2 (answer_of c.args.reply) c.args.self.now c.next_turn.new.self _ c.in_ok-acted.ensures
    c.last_turns.result c.last_turns.new.handling Other c.last_turns.new.self (ap answer_if c.if-not-acted.false) c.last_turns.ensures

pub last_turns-requires : goal.last_turns-requires
last_turns-requires c =
    taken_recent c.args.handling.now c.next_turn.new.handling (answer_of c.args.reply) c.args.self.now c.next_turn.new.self _ c.in_ok-acted.ensures c.requires

pub returns-in_err-acted : goal.returns-in_err-acted
returns-in_err-acted c =
    let handling = c.args.handling.now in
    let answer = answer_of c.args.reply in
    stops_up _ _ (PassesCount (acts_most 3 handling.key handling.agent answer c.args.self.now)) c.from_residual.result c.in_err-acted.field-0.0 c.from_residual.ensures.1
    (turn_limited handling.key handling.agent 2 answer c.args.self.now) c.in_err-acted.ensures
