use Rattle.std.proofs.Common.{◌∷◌, List, ℕ, [], ◌∙◌, ap, arith, drop}
use Rattle.std.specs.Fmt.{decimal}
use Rattle.csv.specs.Machine.{line_feed}
use Rattle.sim_records.specs.Lines.{with_field}
use Rattle.sqs_formats.specs.Rows.{answer_text, detail_text, kind_text, name_at, row_receipt, text_if}
use Rattle.sqs_message.specs.Ids.{id_text}
use Rattle.sim_records.proofs.Ended.{columns_are, line_of_two}
use Rattle.sim_records.proofs.Plain.{set_before}
use Rattle.sim_records.proofs.row_line.put_row.Goals as goal

pub returns-clause-written : goal.returns-clause-written
returns-clause-written c =
    let row = c.args.row.now in
    let names = c.args.names.now in
    let rest = drop c.args.end c.args.text.now in
    let at = decimal row.key.at in
    let queue = name_at names row.queue in
    let agent = name_at names row.agent in
    let kind = kind_text row.kind in
    let answer = answer_text row.answer in
    let message = text_if id_text row.message in
    let receipt = row_receipt row.receipt in
    let detail = detail_text names row.detail in
    let ended = set_before c.args.text.now c.args.end line_feed (omega arith) (omega arith) in
    let detailed = c.in-Some-put_detail.ensures.written ∙ ap (λ t. with_field t detail) ended in
    let named = c.put_ids-named.ensures.written
    ∙ ap (λ (r : List ℕ). with_field (with_field (drop c.in-Some-put_detail.detailed c.put_detail.new.text) r) message) c.in-Some-plain_receipt.ensures
    ∙ ap (λ t. with_field (with_field t receipt) message) detailed in
    columns_are _ at _ _ _ queue _ agent kind _ answer c.put_call.ensures.written c.in-Some.ensures.0 c.in-Some-word.ensures.0 c.in-Ok.ensures.0 named
    ∙ line_of_two at queue (agent ∷ kind ∷ answer ∷ message ∷ receipt ∷ detail ∷ []) rest c.put_call.ensures.at
