use Rattle.std.proofs.Common.{◌≡◌, ap, subst, sym, ◌∙◌}
use Rattle.std.specs.Prelude.{Bool, Some}
use Rattle.sqs_redrive.specs.declared.answers.Sent.{Sent}
use Rattle.sqs_model.specs.Answers.{Meets, most_count}
use Rattle.sqs_model.specs.Arrive.{arrived, brought, settle}
use Rattle.sqs_model.specs.Queue.{Queue}
use Rattle.sqs_queue.specs.Calls.{never_refused}
use Rattle.sqs_queue.proofs.FifoKind.{fifo_enqueued}
use Rattle.sqs_queue.proofs.queue.Queue.arrive_fifo.Goals as goal

pub returns-in-Redrive-clause-answer : goal.returns-in-Redrive-clause-answer
returns-in-Redrive-clause-answer c =
    let q : Queue = c.args.self.now in
    let load = c.in-Redrive in
    let now = ap (λ t. settle q c.args.now (brought q c.args.now load.origin load.body load.group t (Some load.id.site))) (sym (fifo_enqueued q.settings.kind c.requires.kind c.args.now load.enqueued)) in
    let P : (Sent × Bool) × Queue → Type 0 = λ m. Meets (q.arrivals ≡ most_count) c.bring.result c.bring.new.self (never_refused m) in
    subst P (now ∙ ap (arrived q c.args.now) (sym load.is)) c.bring.ensures.answer
