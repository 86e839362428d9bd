use Rattle.std.proofs.Common.{◌≡◌, ◌∙◌, sym, true}
use Rattle.std.proofs.lemmas.Bool.{false≢true}
use Rattle.std.proofs.lemmas.Fmt.{parse-decimal}
use Rattle.sqs_message.specs.Ids.{is_plain}
use Rattle.sqs_message.proofs.Numbers.{plain_decimal, decimal_plain}
use Rattle.sqs_message.proofs.ids.number.Goals as goal

pub returns-then-not-is_plain-clause-complete : goal.returns-then-not-is_plain-clause-complete
returns-then-not-is_plain-clause-complete c = λ n h e. absurd (
    false≢true (sym c.if-not-is_plain.true ∙ rw c.as_bytes.ensures.value at c.is_plain.ensures ∙ decimal_plain c.args.text.now n h e))

pub returns-in-Ok-clause-sound : goal.returns-in-Ok-clause-sound
returns-in-Ok-clause-sound c =
    let plain : is_plain c.args.text.now ≡ true = sym (rw c.as_bytes.ensures.value at c.is_plain.ensures) ∙ c.if-not-is_plain.false in
    plain_decimal c.args.text.now c.in-Ok.n c.parse.result plain c.parse.ensures.value.0 c.in-Ok.is

pub returns-in-Err-clause-complete : goal.returns-in-Err-clause-complete
returns-in-Err-clause-complete c = λ n h e.
    let read = parse-decimal 64 n c.args.text.now c.parse.result h h e c.parse.ensures.value.0 in
    let clash = sym c.in-Err.is ∙ read in
    cc clash

pub returns-in-Ok-clause-complete : goal.returns-in-Ok-clause-complete
returns-in-Ok-clause-complete c = λ n h e.
    let read = parse-decimal 64 n c.args.text.now c.parse.result h h e c.parse.ensures.value.0 in
    let same = sym c.in-Ok.is ∙ read in
    cc same
