-- The running counts of all queues, and the columns that they become.
use Rattle.std.specs.Prelude.{ℕ, zero, suc, List, [], ◌∷◌, ◌++◌, map, fold, OnOk, Option, Result, Some, ◌≡◌}
use Rattle.std.specs.List.{enumerate_from}
use Rattle.sqs_message.specs.declared.row.Row.{Row}
use Rattle.sqs_model.specs.declared.finals.FinalMessage.{FinalMessage}
use Rattle.sqs_formats.specs.Report.{Column, messages_of, rows_of}
use Rattle.sim_report.specs.declared.column.RowCount.{RowCount}
use Rattle.sim_report.specs.declared.left.Left.{Left}
use Rattle.sim_report.specs.declared.queue.QueueCounts.{QueueCounts}
use Rattle.sim_report.specs.Left.{left_of, left_with, lefts}
use Rattle.sim_report.specs.Tally.{TallyState, count_of, others_by, tallied_by, tally_of}

-- a list with one element changed, if it has that index
abbrev pub changed : {X : Type 0} → (X → X) → ℕ → List X → List X
changed f n [] = []
changed f zero (x ∷ xs) = f x ∷ xs
changed f (suc n) (x ∷ xs) = x ∷ changed f n xs

-- a queue with no rows
abbrev pub fresh : List ℕ → QueueCounts
fresh name = record { name = name; tally = tally_of [] }

-- a queue's counts with what one more row counts
abbrev pub with_count : RowCount → QueueCounts → QueueCounts
with_count n q = record q { tally = tallied_by n q.tally }

-- the counts of all queues with what one more row counts, at its own queue alone
abbrev pub count_added : List QueueCounts → RowCount → List QueueCounts
count_added queues n = changed (with_count n) n.queue queues

-- the same with one more row
abbrev pub with_row : Row → QueueCounts → QueueCounts
with_row row q = with_count (count_of row) q

abbrev pub row_added : List QueueCounts → Row → List QueueCounts
row_added queues row = count_added queues (count_of row)

-- the counts of all queues with more rows
abbrev pub rows_added : List QueueCounts → List Row → List QueueCounts
rows_added queues rows = fold row_added queues rows

-- of a queue with its number and name: the name, and the counts over its rows among these
abbrev pub queue_counts : List Row → ℕ × List ℕ → QueueCounts
queue_counts rows queue = record { name = queue.1; tally = tally_of (rows_of queue.0 rows) }

-- the counts after these rows: of each queue, by its name, those over its rows among them
unfoldable pub queues_running : List (List ℕ) → List Row → List QueueCounts
queues_running queues rows = map (queue_counts rows) (enumerate_from 0 queues)

-- what is left of all queues with one more message, which counts at its own queue alone
abbrev pub message_added : List Left → FinalMessage → List Left
message_added left message = changed (left_with message.place) message.id.site left

-- what is left of all queues with more messages
abbrev pub messages_added : List Left → List FinalMessage → List Left
messages_added left messages = fold message_added left messages

-- the columns that a queue's counts become with what is left of it
abbrev pub columns_by : TallyState → Left → List (Option ℕ)
columns_by t l =
    map (λ n. Some n) t.counts ++ others_by t.depth_max l t.ages

-- the columns of a queue with its number
abbrev pub queue_column : List FinalMessage → ℕ × QueueCounts → Column
queue_column messages q = (q.1.name, columns_by q.1.tally (left_of (messages_of q.0 messages)))

-- the columns of all queues
abbrev pub columns_of_all : List QueueCounts → List FinalMessage → List Column
columns_of_all queues messages = map (queue_column messages) (enumerate_from 0 queues)

-- what is left of some queues is counted on with more messages
abbrev pub CountsOn : {A E : Type 0} → Result A E → List Left → List FinalMessage → List Left → Type 0
CountsOn result old messages new =
    (queues : List QueueCounts) (before : List FinalMessage) → old ≡ lefts queues before → OnOk result (new ≡ lefts queues (before ++ messages))

-- the same from no message on
abbrev pub CountsAll : {A E : Type 0} → Result A E → List Left → List FinalMessage → List Left → Type 0
CountsAll result old messages new = (queues : List QueueCounts) → old ≡ lefts queues [] → OnOk result (new ≡ lefts queues messages)
