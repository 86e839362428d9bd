-- The report: for each queue 27 columns over all its rows and what is left in it.
use Rattle.std.specs.Prelude.{ℕ, ◌+◌, ◌-◌, ◌*◌, ◌/◌, ◌==◌, nat_le, max, Bool, true, false, codes, if◌then◌else◌, List, [], ◌∷◌, ◌++◌, length, map, filter, filter_map, fold, sum, slice_get, Option, Some, None}
use Rattle.std.specs.List.{enumerate_from}
use Rattle.std.specs.Fmt.{decimal}
use Rattle.sim_clock.specs.Refusals.{refusal_code}
use Rattle.sqs_message.specs.declared.message.Place.{Place}
use Rattle.sqs_message.specs.declared.message.Place.TheVariants.{Delayed, Visible, InFlight}
use Rattle.sqs_message.specs.declared.row.Row.{Row}
use Rattle.sqs_message.specs.declared.row.RowKind.{RowKind}
use Rattle.sqs_message.specs.declared.row.RowKind.TheVariants as kinds
use Rattle.sqs_message.specs.declared.row.RowAnswer.{RowAnswer}
use Rattle.sqs_message.specs.declared.row.RowAnswer.TheVariants as answers
use Rattle.sqs_message.specs.declared.row.Detail.{Detail}
use Rattle.sqs_message.specs.declared.row.Detail.TheVariants as details
use Rattle.sqs_model.specs.declared.finals.Finals.{Finals}
use Rattle.sqs_model.specs.declared.finals.FinalMessage.{FinalMessage}
use Rattle.sqs_formats.specs.Rows.{lines, text_if}

-- the names of the columns; the first eighteen count rows
abbrev pub counted_columns : List (List ℕ)
counted_columns =
    codes "sends" ∷ codes "repeats" ∷ codes "receives" ∷ codes "empties" ∷ codes "deletes" ∷ codes "expiries" ∷ codes "redrives" ∷ codes "moves"
    ∷ codes "arrivals" ∷ codes "OverLimit" ∷ codes "MessageNotInflight" ∷ codes "ReceiptHandleIsInvalid" ∷ codes "BadTimeout" ∷ codes "MissingGroup"
    ∷ codes "MissingDeduplication" ∷ codes "BadDelay" ∷ codes "TaskRunning" ∷ codes "NoTask" ∷ []

-- the names of all columns
abbrev pub columns : List (List ℕ)
columns =
    counted_columns
    ++ (codes "depth_max" ∷ codes "visible" ∷ codes "in_flight" ∷ codes "delayed" ∷ codes "age_sum" ∷ codes "age_max" ∷ codes "age_p50"
    ∷ codes "age_p95" ∷ codes "age_p99" ∷ [])

-- the index of the column that counts a row; the columns of the errors 1 to 9 follow the first nine
abbrev pub column : RowKind → RowAnswer → Option ℕ
column kinds.Send answers.New = Some 0
column kinds.Send answers.Repeat = Some 1
column kinds.Arrive answers.Repeat = Some 1
column kinds.Receive answers.Ok = Some 2
column kinds.Receive answers.Empty = Some 3
column kinds.Delete answers.Deleted = Some 4
column kinds.Expire answers.Expired = Some 5
column kinds.Redrive answers.Out = Some 6
column kinds.Move answers.Out = Some 7
column kinds.Arrive answers.New = Some 8
column kind (answers.Refused r) = Some (refusal_code r + 8)
column kind answer = None

-- whether this is the column
abbrev pub is_column : ℕ → Option ℕ → Bool
is_column n None = false
is_column n (Some c) = c == n

-- whether a column counts a row
abbrev pub counts_in : ℕ → Row → Bool
counts_in n row = is_column n (column row.kind row.answer)

-- how many rows a column counts
abbrev pub count : ℕ → List Row → ℕ
count n rows = length (filter (counts_in n) rows)

-- how many messages came in by these rows, less those that went out
abbrev pub depth : List Row → ℕ
depth rows = count 0 rows + count 8 rows - (count 4 rows + count 5 rows + count 6 rows + count 7 rows)

-- the prefixes of a list, shortest first
abbrev pub prefixes : {X : Type 0} → List X → List (List X)
prefixes [] = [] ∷ []
prefixes (x ∷ xs) = [] ∷ map (λ p. x ∷ p) (prefixes xs)

-- the greatest of some numbers, or 0
abbrev pub greatest : List ℕ → ℕ
greatest ns = fold max 0 ns

-- the most messages that there were at once
abbrev pub depth_max : List Row → ℕ
depth_max rows = greatest (map depth (prefixes rows))

-- the age in a row, if it is one that counts
abbrev pub age_when : Bool → Detail → Option ℕ
age_when true (details.Age ms) = Some ms
age_when _ _ = None

-- the ages at which messages were deleted
abbrev pub ages : List Row → List ℕ
ages rows = filter_map (λ row. age_when (counts_in 4 row) row.detail) rows

-- a number put before the first that is not below it
abbrev pub put : ℕ → List ℕ → List ℕ
put n [] = n ∷ []
put n (m ∷ ms) = if nat_le n m then n ∷ m ∷ ms else m ∷ put n ms

-- numbers in ascending order
abbrev pub ascending : List ℕ → List ℕ
ascending [] = []
ascending (n ∷ ns) = put n (ascending ns)

-- with p of 100 of the ages at or below it: place ceil(p*n/100) from 1, so one less from 0
abbrev pub rank : ℕ → List ℕ → Option ℕ
rank p ns = slice_get (ascending ns) ((p * length ns + 99) / 100 - 1)

-- whether a message at the end is delayed
abbrev pub is_delayed : Place → Bool
is_delayed Delayed = true
is_delayed Visible = false
is_delayed InFlight = false

-- whether a message at the end is visible
abbrev pub is_visible : Place → Bool
is_visible Delayed = false
is_visible Visible = true
is_visible InFlight = false

-- whether one is in flight
abbrev pub is_in_flight : Place → Bool
is_in_flight Delayed = false
is_in_flight Visible = false
is_in_flight InFlight = true

-- how many messages are at a place at the end
abbrev pub left : (Place → Bool) → List FinalMessage → ℕ
left is_there messages = length (filter (λ m. is_there m.place) messages)

-- as many numbers as a list has members, from this one on
abbrev pub numbers : ℕ → List (List ℕ) → List ℕ
numbers n [] = []
numbers n (c ∷ cs) = n ∷ numbers (n + 1) cs

-- the 27 columns of a queue, over its rows and its messages at the end
unfoldable pub columns_of : List Row → List FinalMessage → List (Option ℕ)
columns_of rows messages =
    map (λ n. Some (count n rows)) (numbers 0 counted_columns)
    ++ (Some (depth_max rows) ∷ Some (left is_visible messages) ∷ Some (left is_in_flight messages) ∷ Some (left is_delayed messages)
    ∷ Some (sum (ages rows)) ∷ rank 100 (ages rows) ∷ rank 50 (ages rows) ∷ rank 95 (ages rows) ∷ rank 99 (ages rows) ∷ [])

-- a queue's name and its columns
abbrev pub Column : Type 0
Column = List ℕ × List (Option ℕ)

-- the rows of a queue
abbrev pub rows_of : ℕ → List Row → List Row
rows_of n rows = filter (λ row. row.queue == n) rows

-- its messages at the end
abbrev pub messages_of : ℕ → List FinalMessage → List FinalMessage
messages_of n messages = filter (λ m. m.id.site == n) messages

-- a queue and its columns
abbrev pub queue_report : List Row → Finals → ℕ × List ℕ → Column
queue_report rows f queue = (queue.1, columns_of (rows_of queue.0 rows) (messages_of queue.0 f.messages))

-- the columns of all queues, over the rows of a run and what is left
abbrev pub report : List (List ℕ) → List Row → Finals → List Column
report queues rows f = map (queue_report rows f) (enumerate_from 0 queues)

-- the fields of a queue
abbrev pub report_fields : Column → List (List ℕ)
report_fields c = codes "report" ∷ c.0 ∷ map (text_if decimal) c.1

-- the records of the report: its header, and one for each queue
abbrev pub report_records : List Column → List (List (List ℕ))
report_records r = (codes "report" ∷ codes "queue" ∷ columns) ∷ map report_fields r

-- the report
abbrev pub report_text : List Column → List ℕ
report_text r = lines (report_records r)
