use Rattle.std.proofs.Common.{◌≡◌, subst}
use Rattle.std.specs.Prelude.{Result}
use Rattle.sim_clock.specs.declared.refusal.Refusal.{Refusal}
use Rattle.sqs_redrive.specs.declared.answers.Sent.{Sent}
use Rattle.sqs_model.specs.Answers.{Meets, most_count}
use Rattle.sqs_model.specs.Queue.{Queue}
use Rattle.sqs_queue.proofs.FifoKind.{no_delay, own_delay, send_delayed, send_groupless, send_idless, send_whole}
use Rattle.sqs_queue.proofs.queue.Queue.send_fifo.Goals as goal

pub returns-then-unwrap_or-gt0-clause-answer : goal.returns-then-unwrap_or-gt0-clause-answer
returns-then-unwrap_or-gt0-clause-answer c = send_delayed _ c.requires.kind c.args.self.now c.args.now c.args.body c.args.delay c.args.id c.args.group (own_delay c.args.delay _ c.unwrap_or.ensures c.if-unwrap_or-gt0.true)

pub returns-in_default-clause-answer : goal.returns-in_default-clause-answer
returns-in_default-clause-answer c =
    send_groupless _ c.requires.kind c.args.self.now c.args.now c.args.body c.args.delay c.args.id c.args.group (no_delay c.args.delay _ c.unwrap_or.ensures c.if-unwrap_or-gt0.false) c.in_default.is

pub returns-in_default-2-clause-answer : goal.returns-in_default-2-clause-answer
returns-in_default-2-clause-answer c =
    send_idless _ c.requires.kind c.args.self.now c.args.now c.args.body c.args.delay c.args.id c.args.group c.in_ok-id.field-0 c.in-Some.group (no_delay c.args.delay _ c.unwrap_or.ensures c.if-unwrap_or-gt0.false) c.in-Some.is
    c.compares_bodies.result c.compares_bodies.ensures c.in_ok-id.ensures c.in_default-2.is

pub returns-clause-answer : goal.returns-clause-answer
returns-clause-answer c =
    let whole =
    send_whole _ c.requires.kind c.args.self.now c.args.now c.args.body c.args.delay c.args.id c.args.group c.in_ok-id.field-0 c.in-Some.group (no_delay c.args.delay _ c.unwrap_or.ensures c.if-unwrap_or-gt0.false) c.in-Some.is
    c.compares_bodies.result c.compares_bodies.ensures c.in_ok-id.ensures c.in-Some-2.id c.in-Some-2.is in
    let P : Result Sent Refusal × Queue → Type 0 = λ m. Meets (c.args.self.now.arrivals ≡ most_count) c.send_in.result c.send_in.new.self m in
    subst P whole c.send_in.ensures.answer
