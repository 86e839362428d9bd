-- Which columns a row has, by its kind and its answer.
use Rattle.std.specs.Prelude.{◌≡◌, Bool, true, false, Option, Some, None, is_some}
use Rattle.sqs_message.specs.declared.row.Row.{Row}
use Rattle.sqs_message.specs.declared.row.RowKind.{RowKind}
use Rattle.sqs_message.specs.declared.row.RowKind.TheVariants as kinds
use Rattle.sqs_message.specs.declared.row.RowAnswer.{RowAnswer}
use Rattle.sqs_message.specs.declared.row.RowAnswer.TheVariants as answers
use Rattle.sqs_message.specs.declared.row.RowReceipt.{RowReceipt}
use Rattle.sqs_message.specs.declared.row.RowReceipt.TheVariants as receipts
use Rattle.sqs_message.specs.declared.row.Detail.{Detail}
use Rattle.sqs_message.specs.declared.row.Detail.TheVariants as details
use Rattle.sim_logs.specs.declared.columns.Columns.{Columns}
use Rattle.sim_logs.specs.declared.columns.ReceiptForm.{ReceiptForm}
use Rattle.sim_logs.specs.declared.columns.ReceiptForm.TheVariants as receipt
use Rattle.sim_logs.specs.declared.columns.DetailForm.{DetailForm}
use Rattle.sim_logs.specs.declared.columns.DetailForm.TheVariants as detail

-- a message if so, and these two
abbrev pub has : Bool → ReceiptForm → DetailForm → Option Columns
has m r d = Some (record { message = m; receipt = r; detail = d })

-- what the last three columns of a row have; no other rows are written
abbrev pub columns_by : RowKind → RowAnswer → Option Columns
columns_by kinds.Send answers.New = has true receipt.Absent detail.Digest
columns_by kinds.Send answers.Repeat = has true receipt.Absent detail.Digest
columns_by kinds.Send (answers.Refused r) = has false receipt.Absent detail.Absent
columns_by kinds.Receive answers.Ok = has true receipt.Made detail.From
columns_by kinds.Receive answers.Wait = has false receipt.Absent detail.Absent
columns_by kinds.Receive answers.Empty = has false receipt.Absent detail.Absent
columns_by kinds.Receive (answers.Refused r) = has false receipt.Absent detail.Absent
columns_by kinds.Delete answers.Deleted = has true receipt.Given detail.Age
columns_by kinds.Delete answers.Kept = has true receipt.Given detail.Absent
columns_by kinds.Delete answers.Gone = has true receipt.Given detail.Absent
columns_by kinds.Delete (answers.Refused r) = has false receipt.Given detail.Absent
columns_by kinds.Change answers.Ok = has true receipt.Given detail.Timeout
columns_by kinds.Change (answers.Refused r) = has false receipt.Given detail.Absent
columns_by kinds.Fail answers.Ok = has true receipt.Made detail.Absent
columns_by kinds.Forward answers.Out = has true receipt.Absent detail.Queue
columns_by kinds.Redrive answers.Out = has true receipt.Absent detail.Queue
columns_by kinds.Move answers.Out = has true receipt.Absent detail.Queue
columns_by kinds.Start answers.Ok = has false receipt.Absent detail.Task
columns_by kinds.Start (answers.Refused r) = has false receipt.Absent detail.Task
columns_by kinds.Cancel answers.Ok = has false receipt.Absent detail.Task
columns_by kinds.Cancel (answers.Refused r) = has false receipt.Absent detail.Task
columns_by kinds.Release answers.Visible = has true receipt.Absent detail.Absent
columns_by kinds.Arrive answers.New = has true receipt.Absent detail.From
columns_by kinds.Arrive answers.Repeat = has true receipt.Absent detail.From
columns_by kinds.Expire answers.Expired = has true receipt.Absent detail.Age
columns_by kinds.Task answers.Completed = has false receipt.Absent detail.Moved
columns_by kinds.Task answers.Failed = has false receipt.Absent detail.Moved
columns_by kinds.Scale answers.Ok = has false receipt.Absent detail.Copies
columns_by kinds.Sample answers.Ok = has false receipt.Absent detail.Counts
columns_by kind answer = None

-- what the receipt column has
abbrev pub receipt_form : RowReceipt → ReceiptForm
receipt_form receipts.Absent = receipt.Absent
receipt_form (receipts.Made r) = receipt.Made
receipt_form (receipts.Given text) = receipt.Given

-- what the detail column has
abbrev pub detail_form : Detail → DetailForm
detail_form details.Absent = detail.Absent
detail_form (details.Digest md5) = detail.Digest
detail_form (details.From o) = detail.From
detail_form (details.Age ms) = detail.Age
detail_form (details.Timeout s) = detail.Timeout
detail_form (details.Queue n) = detail.Queue
detail_form (details.Task n) = detail.Task
detail_form (details.Moved n) = detail.Moved
detail_form (details.Copies from to) = detail.Copies
detail_form (details.Counts visible in_flight delayed) = detail.Counts

-- what the last three columns of a row have
abbrev pub columns_of : Row → Columns
columns_of row =
    record { message = is_some row.message; receipt = receipt_form row.receipt; detail = detail_form row.detail }

-- a row with the columns of its kind and its answer
abbrev pub HasItsColumns : Row → Type 0
HasItsColumns row = columns_by row.kind row.answer ≡ Some (columns_of row)
