-- The log: its header, and a line for each row.
use Rattle.std.specs.Prelude.{ℕ, codes, List, [], ◌∷◌, ◌++◌, map, flat_map, get_or, Option, Some, None}
use Rattle.std.specs.Fmt.{decimal}
use Rattle.csv.specs.Writing.{default_writer, row_text}
use Rattle.hex.specs.Hex.{encode_lower}
use Rattle.sim_clock.specs.Refusals.{refusal_name}
use Rattle.sqs_message.specs.declared.row.Row.{Row}
use Rattle.sqs_message.specs.declared.row.RowKind.{RowKind}
use Rattle.sqs_message.specs.declared.row.RowKind.TheVariants as kinds
use Rattle.sqs_message.specs.declared.row.RowAnswer.{RowAnswer}
use Rattle.sqs_message.specs.declared.row.RowAnswer.TheVariants as answers
use Rattle.sqs_message.specs.declared.row.RowReceipt.{RowReceipt}
use Rattle.sqs_message.specs.declared.row.RowReceipt.TheVariants as receipts
use Rattle.sqs_message.specs.declared.row.Detail.{Detail}
use Rattle.sqs_message.specs.declared.row.Detail.TheVariants as details
use Rattle.sqs_message.specs.Ids.{id_text, origin_text, receipt_text}

-- a record as a line of CSV, in quotes if it needs them
abbrev pub line : List (List ℕ) → List ℕ
line fields = row_text default_writer fields

-- several records, a line each
abbrev pub lines : List (List (List ℕ)) → List ℕ
lines rows = flat_map line rows

-- the names of all agents, by number
abbrev pub Names : Type 0
Names = List (List ℕ)

-- the name of an agent
abbrev pub name_at : Names → ℕ → List ℕ
name_at names n = get_or names n []

-- the text of something, if there is something
abbrev pub text_if : {X : Type 0} → (X → List ℕ) → Option X → List ℕ
text_if text None = []
text_if text (Some x) = text x

-- the name of a row's kind
abbrev pub kind_text : RowKind → List ℕ
kind_text kinds.Send = codes "send"
kind_text kinds.Receive = codes "receive"
kind_text kinds.Delete = codes "delete"
kind_text kinds.Change = codes "change"
kind_text kinds.Fail = codes "fail"
kind_text kinds.Forward = codes "forward"
kind_text kinds.Start = codes "start"
kind_text kinds.Cancel = codes "cancel"
kind_text kinds.Release = codes "release"
kind_text kinds.Redrive = codes "redrive"
kind_text kinds.Move = codes "move"
kind_text kinds.Arrive = codes "arrive"
kind_text kinds.Expire = codes "expire"
kind_text kinds.Task = codes "task"
kind_text kinds.Scale = codes "scale"
kind_text kinds.Sample = codes "sample"

-- the name of how it went
abbrev pub answer_text : RowAnswer → List ℕ
answer_text answers.New = codes "new"
answer_text answers.Repeat = codes "repeat"
answer_text answers.Ok = codes "ok"
answer_text answers.Wait = codes "wait"
answer_text answers.Empty = codes "empty"
answer_text answers.Deleted = codes "deleted"
answer_text answers.Kept = codes "kept"
answer_text answers.Gone = codes "gone"
answer_text answers.Out = codes "out"
answer_text answers.Visible = codes "visible"
answer_text answers.Expired = codes "expired"
answer_text answers.Completed = codes "Completed"
answer_text answers.Failed = codes "Failed"
answer_text (answers.Refused r) = refusal_name r

-- the receipt column
abbrev pub row_receipt : RowReceipt → List ℕ
row_receipt receipts.Absent = []
row_receipt (receipts.Made r) = receipt_text r
row_receipt (receipts.Given text) = text

-- the detail column
abbrev pub detail_text : Names → Detail → List ℕ
detail_text names details.Absent = []
detail_text names (details.Digest md5) = encode_lower md5
detail_text names (details.From o) = origin_text o
detail_text names (details.Age ms) = decimal ms
detail_text names (details.Timeout s) = decimal s
detail_text names (details.Queue n) = name_at names n
detail_text names (details.Task n) = name_at names n
detail_text names (details.Moved n) = decimal n
detail_text names (details.Copies from to) = decimal from ++ (codes "/" ++ decimal to)
detail_text names (details.Counts visible in_flight delayed) =
    decimal visible ++ (codes "/" ++ (decimal in_flight ++ (codes "/" ++ decimal delayed)))

-- the header of the log
abbrev pub log_header : List (List ℕ)
log_header =
    codes "at" ∷ codes "queue" ∷ codes "agent" ∷ codes "call" ∷ codes "answer" ∷ codes "message" ∷ codes "receipt" ∷ codes "detail" ∷ []

-- the fields of a row
abbrev pub row_fields : Names → Row → List (List ℕ)
row_fields names row =
    decimal row.key.at ∷ name_at names row.queue ∷ name_at names row.agent ∷ kind_text row.kind ∷ answer_text row.answer
    ∷ text_if id_text row.message ∷ row_receipt row.receipt ∷ detail_text names row.detail ∷ []

-- the records of the log: its header, and one for each row
abbrev pub log_records : Names → List Row → List (List (List ℕ))
log_records names rows = log_header ∷ map (row_fields names) rows

-- the log of a run
abbrev pub log_text : Names → List Row → List ℕ
log_text names rows = lines (log_records names rows)
