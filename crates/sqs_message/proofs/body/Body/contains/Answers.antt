use Rattle.std.proofs.Common.{ap, ◌∙◌}
use Rattle.sqs_message.specs.Bodies.{contains, filled}
use Rattle.sqs_message.proofs.Filled.{numbered}
use Rattle.sqs_message.proofs.body.Body.contains.Goals as goal

pub returns : goal.returns
returns c =
    c.contains_filled.ensures
    ∙ ap (λ d. contains c.args.part.now (filled d c.as_bytes-text.result.now)) (c.as_bytes.ensures.value ∙ c.format.ensures.text)
    ∙ ap (contains c.args.part.now) (rw (c.as_bytes-text.ensures, c.deref.ensures) (numbered _ _ _ (rw c.deref-2.ensures at c.if-not-deref.false) ∙ c.self.view_is))
