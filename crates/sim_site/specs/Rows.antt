-- The rows that a site makes.
use Rattle.std.specs.Prelude.{Option, ℕ, List, None}
use Rattle.sim_clock.specs.declared.key.Key.{Key}
use Rattle.sqs_message.specs.declared.ids.MessageId.{MessageId}
use Rattle.sqs_message.specs.declared.row.Detail.{Detail}
use Rattle.sqs_message.specs.declared.row.Row.{Row}
use Rattle.sqs_message.specs.declared.row.RowAnswer.{RowAnswer}
use Rattle.sqs_message.specs.declared.row.RowKind.{RowKind}
use Rattle.sqs_message.specs.declared.row.RowReceipt.{RowReceipt}
use Rattle.sqs_message.specs.declared.row.Detail.TheVariants as details
use Rattle.sqs_message.specs.declared.row.RowAnswer.TheVariants as answers
use Rattle.sqs_message.specs.declared.row.RowReceipt.TheVariants as receipts
use Rattle.sim_clock.specs.declared.refusal.Refusal.{Refusal}

-- a row by its columns
abbrev pub row_at : Key → ℕ → ℕ → RowKind → RowAnswer → Option MessageId → RowReceipt → Detail → Row
row_at key site agent kind answer message receipt detail =
    record {
      key = key;
      queue = site;
      agent = agent;
      kind = kind;
      answer = answer;
      message = message;
      receipt = receipt;
      detail = detail;
    }

-- the row of a call by a receipt handle that was refused
abbrev pub refused_row : Key → ℕ → ℕ → RowKind → List ℕ → Refusal → Row
refused_row key site agent kind handle refusal =
    row_at key site agent kind (answers.Refused refusal) None (receipts.Given handle) details.Absent
