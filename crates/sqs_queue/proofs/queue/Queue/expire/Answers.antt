use Rattle.std.proofs.Common.{◌≡◌, None, ap, sym, ◌∙◌}
use Rattle.sqs_model.specs.Arrive.{expired, expired_found}
use Rattle.sqs_model.specs.Queue.{Queue, numbered}
use Rattle.sqs_queue.proofs.Coming.{taken_none}
use Rattle.sqs_queue.proofs.queue.Queue.expire.Goals as goal

pub returns-in_default-clause-answer : goal.returns-in_default-clause-answer
returns-in_default-clause-answer c =
    let q : Queue = c.self.inside.messages in
    let none : numbered c.args.number q.records ≡ None = sym c.remove.ensures.found ∙ c.in_default.is in
    let same : c.remove.new.self ≡ q = c.remove.ensures.rest ∙ taken_none q c.args.number none in
    ap (λ (r : Queue). expired r c.args.now c.args.number) (sym c.self.view_is)
    ∙ ap (λ o. expired_found (record q { entries = c.self.inside.entries }) c.args.now c.args.number o) none
    ∙ ap (λ (r : Queue). (0, record r { entries = c.self.inside.entries })) (sym same)
