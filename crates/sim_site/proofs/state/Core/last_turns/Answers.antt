use Rattle.std.proofs.Common.{Ok, ap}
use Rattle.sim_actor.specs.Lives.{answer_of}
use Rattle.sqs_model.specs.Limits.{PassesCount}
use Rattle.sqs_model.specs.Polls.{acts_most}
use Rattle.sqs_model.specs.declared.acts.Answer.TheVariants.{Other}
use Rattle.sim_site.specs.Turns.{answer_if}
use Rattle.sim_site.proofs.Passing.{stops_up}
use Rattle.sim_site.proofs.Recent.{taken_recent}
use Rattle.sim_site.proofs.Turns.{turn_ends, turn_goes, turn_last, turn_limited}
use Rattle.sim_site.proofs.state.Core.last_turns.Goals as goal

pub returns-then-not-acted : goal.returns-then-not-acted
returns-then-not-acted c =
    turn_ends c.args.handling.now c.next_turn.new.handling 1 (answer_of c.args.reply) c.args.self.now c.next_turn.new.self _ c.in_ok-acted.ensures (ap answer_if c.if-not-acted.true)

pub returns : goal.returns
returns c =
    let mid = c.next_turn.new.handling in
    turn_goes c.args.handling.now mid 1 (answer_of c.args.reply) c.args.self.now c.next_turn.new.self _ c.in_ok-acted.ensures
    (Ok (tt {0})) c.next_turn-2.new.handling Other c.next_turn-2.new.self (ap answer_if c.if-not-acted.false)
    (turn_last mid c.next_turn-2.new.handling Other c.next_turn.new.self c.next_turn-2.new.self (answer_if c.in_ok-next_turn.field-0) c.in_ok-next_turn.ensures)

pub next_turn-requires-2 : goal.next_turn-requires-2
next_turn-requires-2 c =
    taken_recent c.args.handling.now c.next_turn.new.handling (answer_of c.args.reply) c.args.self.now c.next_turn.new.self _ c.in_ok-acted.ensures c.requires

pub returns-in_err-acted : goal.returns-in_err-acted
returns-in_err-acted c =
    let handling = c.args.handling.now in
    let answer = answer_of c.args.reply in
    stops_up _ _ (PassesCount (acts_most 2 handling.key handling.agent answer c.args.self.now)) c.from_residual.result c.in_err-acted.field-0.0 c.from_residual.ensures.1
    (turn_limited handling.key handling.agent 1 answer c.args.self.now) c.in_err-acted.ensures

pub returns-in_err-next_turn : goal.returns-in_err-next_turn
returns-in_err-next_turn c =
    let handling = c.args.handling.now in
    let mid = c.next_turn.new.handling in
    let answer = answer_of c.args.reply in
    turn_goes handling mid 1 answer c.args.self.now c.next_turn.new.self _ c.in_ok-acted.ensures
    c.from_residual-in_err-next_turn.result c.next_turn-2.new.handling Other c.next_turn-2.new.self (ap answer_if c.if-not-acted.false)
    (stops_up _ _ (PassesCount (acts_most 1 mid.key mid.agent Other c.next_turn.new.self)) c.from_residual-in_err-next_turn.result c.in_err-next_turn.field-0.0 c.from_residual-in_err-next_turn.ensures.1
    (turn_limited mid.key mid.agent 0 Other c.next_turn.new.self) c.in_err-next_turn.ensures)
