use Rattle.std.proofs.Common.{◌≡◌, ◌+◌, ◌∷◌, ◌++◌, ◌∙◌, List, ℕ, ap, arith, drop, length, rules, sym, take}
use Rattle.std.proofs.Math.Seq.{take-append_seam}
use Rattle.std.proofs.lemmas.List.{drop-drop}
use Rattle.csv.specs.Writing.{comma}
use Rattle.sim_records.specs.Lines.{dashed, with_field}
use Rattle.sqs_formats.specs.Rows.{text_if}
use Rattle.sqs_message.specs.Ids.{id_text}
use Rattle.sim_records.proofs.Plain.{id_put, receipt_put}
use Rattle.sim_records.proofs.row_line.put_received.Goals as goal

-- what is copied are the numbers
copied : (text numbers behind rest : List ℕ) (received first len : ℕ) → drop received text ≡ comma ∷ 114 ∷ rest → received + 2 ≡ first → rest ≡ numbers ++ behind → len ≡ length numbers → take len (drop first text) ≡ numbers
copied text numbers behind rest received first len is place parts long =
    (λ j. take (long j) (drop (sym place j) text))
    ∙ ap (take (length numbers)) (sym (drop-drop 2 received text) ∙ ap (drop 2) is ∙ parts)
    ∙ take-append_seam numbers behind

pub returns-then-counted-first-le-WORD-clause-written : goal.returns-then-counted-first-le-WORD-clause-written
returns-then-counted-first-le-WORD-clause-written c =
    let r = c.args.receipt in
    let rest = drop c.args.end c.args.text.now in
    let numbers : List ℕ = dashed r.site r.number in
    let made = c.dashed_before-first.ensures in
    let put = c.put_field-received.ensures in
    let received = put.written ∙ ap (λ t. comma ∷ 114 ∷ t) made.written ∙ receipt_put r.site r.number r.count rest (search rules) (search rules) (search rules) in
    let id = id_put r.site r.number (drop c.put_field-received.result c.put_field-received.new.text) (search rules) (search rules) in
    let again : take _ (drop _ c.put_field-received.new.text) ≡ numbers =
    copied c.put_field-received.new.text numbers _ _ c.put_field-received.result _ _ put.written (omega (arith, put.before)) made.written (omega (arith, made.long)) in
    let named : text_if id_text c.args.message ≡ 109 ∷ numbers = ap (text_if id_text) (c.is_named.ensures c.if-is_named.true) in
    c.put_field.ensures.written
    ∙ ap (λ t. comma ∷ 109 ∷ t) (c.put_again-numbered.ensures.written ∙ ap (λ (t : List ℕ). t ++ drop c.put_field-received.result c.put_field-received.new.text) again)
    ∙ id
    ∙ ap (with_field _) (sym named)
    ∙ ap (λ t. with_field t (text_if id_text c.args.message)) received

pub returns-clause-written : goal.returns-clause-written
returns-clause-written c =
    let r = c.args.receipt in
    let rest = drop c.args.end c.args.text.now in
    let received = c.put_field-received.ensures.written ∙ ap (λ t. comma ∷ 114 ∷ t) c.dashed_before-first.ensures.written ∙ receipt_put r.site r.number r.count rest (search rules) (search rules) (search rules) in
    c.put_message.ensures.written ∙ ap (λ t. with_field t (text_if id_text c.args.message)) received
