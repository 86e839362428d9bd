use Rattle.std.proofs.Common.{List, ap, arith}
use Rattle.std.specs.Prelude.{Result}
use Rattle.sim_clock.specs.declared.refusal.Refusal.{Refusal}
use Rattle.sqs_model.specs.Queue.{Queue}
use Rattle.sqs_redrive.specs.declared.answers.Got.{Got}
use Rattle.sim_site.proofs.Receiving.{receive_few}
use Rattle.sim_site.proofs.state.receives.received_by.Goals as goal

pub returns-in-Ok-clause-few : goal.returns-in-Ok-clause-few
returns-in-Ok-clause-few c =
    let is = ap (λ (x : Result (List Got) Refusal × Queue). x.0) c.in-Ok.ensures.answer in
    let few = receive_few c.args.queue.now c.args.now c.args.max c.args.timeout c.args.hosts c.args.short c.in-Ok.received.messages.items is in
    omega (arith, few, c.requires.settings.limit.1)
