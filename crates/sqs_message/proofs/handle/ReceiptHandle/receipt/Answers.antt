use Rattle.std.proofs.Common.{◌≡◌, ◌∙◌, None, ap, subst, sym}
use Rattle.std.specs.Str.{IsUtf8}
use Rattle.sqs_message.specs.Handles.{handle_text}
use Rattle.sqs_message.specs.Ids.{read_receipt}
use Rattle.sqs_message.proofs.Receipts.{not_a_receipt}
use Rattle.sqs_message.proofs.handle.ReceiptHandle.receipt.Goals as goal

pub returns-in-Err : goal.returns-in-Err
returns-in-Err c =
    let same : c.in-Text.text ≡ c.args.self.now = sym (ap handle_text c.in-Text.is) ∙ c.self.view_is in
    subst (λ t. None ≡ read_receipt t) same (not_a_receipt c.in-Text.text (λ u. c.in-Err.ensures.cases.0 (subst IsUtf8 (sym c.as_bytes.ensures) u)))
