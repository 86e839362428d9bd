use Rattle.std.proofs.Common.{rules, take}
use Rattle.sqs_model.specs.Available.{available}
use Rattle.sqs_queue.proofs.Giving.{answered_given}
use Rattle.sqs_queue.proofs.queue.Queue.receive.Goals as goal

pub returns-clause-answer : goal.returns-clause-answer
returns-clause-answer c =
    let given =
    answered_given c.args.self.now c.give_all.new.self c.args.now c.in_ok-wait.wait (take c.min-most.result (available c.args.self.now c.from.result)) c.in_ok-batch.batch.messages.items c.give_all.new.batch.items
    c.in_ok-batch.ensures.told c.give_all.ensures.given in
    search rules
