use Rattle.std.proofs.Common.{◌≡◌, ◌+◌, ◌*◌, arith, rules, sym, ◌∙◌}
use Rattle.sqs_model.specs.Calls.{in_flight_until}
use Rattle.sqs_model.specs.Queue.{with_change}
use Rattle.sqs_messages.specs.Slots.{restated}
use Rattle.sqs_queue.proofs.Coming.{change_as}
use Rattle.sqs_queue.proofs.queue.Queue.change.Goals as goal

pub overflow_add-message : goal.overflow_add-message
overflow_add-message c = omega (arith, c.in-Some.ensures.counted.received)

pub returns-clause-answer : goal.returns-clause-answer
returns-clause-answer c =
    let put : c.put.new.self ≡ with_change c.self.inside.messages c.args.receipt.now.number (in_flight_until (c.args.now + 1000 * c.args.timeout)) =
    c.put.ensures ∙ change_as c.self.inside.messages c.args.receipt.now.number (restated c.out_until-state.result) (in_flight_until (c.args.now + 1000 * c.args.timeout)) c.in-Some.message.now (sym c.in-Some.ensures.found) c.out_until-state.ensures.state in
    search rules
