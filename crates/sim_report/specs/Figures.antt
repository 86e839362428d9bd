-- Figures: what a stretch of a run says of a queue or an actor, over the rows of its log.
use Rattle.std.specs.Prelude.{ℕ, ◌+◌, ◌-◌, ◌*◌, ◌/◌, ◌==◌, nat_le, nat_lt, not, ◌&&◌, ◌||◌, Bool, true, false, codes, cond, max, List, [], ◌∷◌, ◌++◌, filter, filter_map, flat_map, fold, get_or, is_some, length, map, option_map, slice_get, sum, unwrap_or, zip, Option, Some, None}
use Rattle.std.specs.BTreeMap.{insert_entry, is_at}
use Rattle.std.specs.BTreeSet.{insert_key}
use Rattle.std.specs.Map.{lookup, remove_entry}
use Rattle.std.specs.Set.{remove_key}
use Rattle.std.specs.Fmt.{decimal}
use Rattle.std.specs.List.{list_any}
use Rattle.std.specs.Ordering.{nat_cmp, on, then_cmp}
use Rattle.std.specs.declared.cmp.Ordering.{Ordering}
use Rattle.sqs_message.specs.Ids.{read_receipt}
use Rattle.sqs_message.specs.declared.ids.MessageId.{MessageId}
use Rattle.sqs_message.specs.declared.ids.Receipt.{Receipt}
use Rattle.sqs_message.specs.declared.row.Row.{Row}
use Rattle.sqs_message.specs.declared.row.RowKind.{RowKind}
use Rattle.sqs_message.specs.declared.row.RowKind.TheVariants as kinds
use Rattle.sqs_message.specs.declared.row.RowAnswer.{RowAnswer}
use Rattle.sqs_message.specs.declared.row.RowAnswer.TheVariants as answers
use Rattle.sqs_message.specs.declared.row.RowReceipt.{RowReceipt}
use Rattle.sqs_message.specs.declared.row.RowReceipt.TheVariants as receipts
use Rattle.sqs_message.specs.declared.row.Detail.{Detail}
use Rattle.sqs_message.specs.declared.row.Detail.TheVariants as details
use Rattle.sqs_formats.specs.Report.{age_when, ages, ascending, column, counts_in, depth, greatest, is_column, numbers, put, rank}
use Rattle.sqs_formats.specs.Rows.{text_if}
use Rattle.sim_report.specs.declared.aged.Aged.{Aged}
use Rattle.sim_report.specs.declared.stretch.Stretch.{Stretch}
use Rattle.sim_report.specs.declared.asked.QueueAsked.{QueueAsked}
use Rattle.sim_report.specs.declared.asked.Way.{Way}
use Rattle.sim_report.specs.declared.asked.Wanted.{Wanted}
use Rattle.sim_report.specs.declared.held.Held.{Held}
use Rattle.sim_report.specs.declared.polls.Given.{Given}
use Rattle.sim_report.specs.declared.peak.Peak.{Peak}
use Rattle.sim_report.specs.declared.tries.Tries.{Tries}
use Rattle.sim_report.specs.declared.windows.Windows.{Windows}
use Rattle.sim_report.specs.declared.windows.Worst.{Worst}
use Rattle.sim_report.specs.declared.fact.Flight.{Flight}
use Rattle.sim_report.specs.declared.fact.Flight.TheVariants.{Begins, Leaves, Returns, Stays}
use Rattle.sim_report.specs.declared.fact.Use.{Use}
use Rattle.sim_report.specs.declared.fact.Use.TheVariants.{Calls, Deletes, Fails, Gives, Passes}
use Rattle.sim_report.specs.declared.fact.Hold.{Hold}
use Rattle.sim_report.specs.declared.fact.Hold.TheVariants.{Asks, Keeps, Settles, Takes, Waits}

-- what figures are asked for: the queues, which are the first agents, the names of the next agents, the ways from queue
-- to queue, and what is wanted
pub record FiguresAsked : Type 0 where
  pub queues : List QueueAsked
  pub actors : List (List ℕ)
  pub ways : List Way
  pub wanted : Wanted

-- messages to which something happened: their numbers in ascending order; of those to which it did more than once, how
-- often; and the greatest of these numbers of times
pub record Often : Type 0 where
  pub all : List ℕ
  pub again : List (ℕ × ℕ)
  pub greatest : ℕ

-- the rows before the end of a stretch; all that follows is over these
abbrev pub rows_until : Stretch → List Row → List Row
rows_until s rows = filter (λ row. nat_lt row.key.at s.until) rows

-- whether a row of these lies in the stretch
abbrev pub is_within : Stretch → Row → Bool
is_within s row = nat_le s.from row.key.at

-- its rows, and the first rows, which are before it
abbrev pub rows_within : Stretch → List Row → List Row
rows_within s rows = filter (is_within s) rows

abbrev pub rows_before : Stretch → List Row → List Row
rows_before s [] = []
rows_before s (row ∷ rows) = cond (is_within s row) [] (row ∷ rows_before s rows)

-- the rows of an actor
abbrev pub rows_by : ℕ → List Row → List Row
rows_by n rows = filter (λ row. row.agent == n) rows

-- how much of the time from one moment to another, which is not past its end, lies in a stretch
abbrev pub overlap : Stretch → ℕ → ℕ → ℕ
overlap s first last = last - max first s.from

-- the names of what is counted, by place, where the lines begin with 0, 5, 10, 14, 19 and 24; a row counts once at most
unfoldable pub count_names : List (List ℕ)
count_names =
    codes "sent" ∷ codes "sent_again" ∷ codes "came_by_forward" ∷ codes "came_by_redrive" ∷ codes "came_by_move"
    ∷ codes "forwarded_again" ∷ codes "receives" ∷ codes "waits" ∷ codes "empty_receives" ∷ codes "deleted"
    ∷ codes "deletes_by_older_receipt" ∷ codes "deletes_of_gone" ∷ codes "changes" ∷ codes "failed_services"
    ∷ codes "forwarded" ∷ codes "dead_lettered" ∷ codes "moved_away" ∷ codes "lost_by_expiry" ∷ codes "refused_sends"
    ∷ codes "refused_receives" ∷ codes "refused_deletes" ∷ codes "refused_changes" ∷ codes "starts" ∷ codes "cancels"
    ∷ codes "refused_starts" ∷ codes "refused_cancels" ∷ codes "copies_changed" ∷ []

-- whether a message that arrived is of an origin of its own, as what a consumer forwards
abbrev pub is_own : Option MessageId → Detail → Bool
is_own (Some id) (details.From o) = cond (id.site == o.site) (id.number == o.number) false
is_own message detail = false

-- what a row of this kind with this answer counts as, by its place among the names; an arrival stands for all three
abbrev pub counted_as : RowKind → RowAnswer → Option ℕ
counted_as kinds.Send answers.New = Some 0
counted_as kinds.Send answers.Repeat = Some 1
counted_as kinds.Arrive answers.New = Some 2
counted_as kinds.Arrive answers.Repeat = Some 5
counted_as kinds.Receive answers.Ok = Some 6
counted_as kinds.Receive answers.Wait = Some 7
counted_as kinds.Receive answers.Empty = Some 8
counted_as kinds.Delete answers.Deleted = Some 9
counted_as kinds.Delete answers.Kept = Some 10
counted_as kinds.Delete answers.Gone = Some 11
counted_as kinds.Change answers.Ok = Some 12
counted_as kinds.Fail answers.Ok = Some 13
counted_as kinds.Forward answers.Out = Some 14
counted_as kinds.Redrive answers.Out = Some 15
counted_as kinds.Move answers.Out = Some 16
counted_as kinds.Expire answers.Expired = Some 17
counted_as kinds.Send (answers.Refused r) = Some 18
counted_as kinds.Receive (answers.Refused r) = Some 19
counted_as kinds.Delete (answers.Refused r) = Some 20
counted_as kinds.Change (answers.Refused r) = Some 21
counted_as kinds.Start answers.Ok = Some 22
counted_as kinds.Cancel answers.Ok = Some 23
counted_as kinds.Start (answers.Refused r) = Some 24
counted_as kinds.Cancel (answers.Refused r) = Some 25
counted_as kinds.Scale answers.Ok = Some 26
counted_as kind answer = None

-- how an arrival came: by a forward, which has an origin of its own; by a redrive, which a queue sent; or by a move
abbrev pub by_way : Bool → Bool → Option ℕ → Option ℕ
by_way own by_queue place = cond (is_column 2 place) (Some (cond own 2 (cond by_queue 3 4))) place

-- what a row counts as, where so many queues are the first agents
abbrev pub count_of_row : ℕ → Row → Option ℕ
count_of_row queues row =
    by_way (is_own row.message row.detail) (nat_lt row.agent queues) (counted_as row.kind row.answer)

-- how many rows count as the name in this place
abbrev pub counted_in : ℕ → List Row → ℕ → ℕ
counted_in queues rows n = length (filter (λ row. is_column n (count_of_row queues row)) rows)

-- how many rows count as each
abbrev pub counts_of : ℕ → List Row → List ℕ
counts_of queues rows = map (counted_in queues rows) (numbers 0 count_names)

-- of two numbers with their moments the greater, and the earlier one if they are equal
abbrev pub higher : Peak → Peak → Peak
higher first second = cond (nat_lt first.number second.number) second first

-- the numbers that these rows, where they lie in a stretch, have by the rows before them, with their moments; `before`
-- come before all
abbrev pub levels_from : (List Row → Row → ℕ) → Stretch → List Row → List Row → List Peak
levels_from level s before [] = []
levels_from level s before (row ∷ rows) =
    cond (is_within s row) (record { at = row.key.at; number = level before row } ∷ []) []
    ++ levels_from level s (before ++ row ∷ []) rows

-- the greatest of such a number, at the beginning of a stretch or after one of its rows, with the first such moment
abbrev pub peak_of : (List Row → ℕ) → Stretch → List Row → Peak
peak_of level s rows =
    fold higher (record { at = s.from; number = level (rows_before s rows) })
    (levels_from (λ before row. level (before ++ row ∷ [])) s [] rows)

-- what a row does to its message: receives it, brings it back or takes it out of the queue
abbrev pub flight_of : RowKind → RowAnswer → Flight
flight_of kinds.Receive answers.Ok = Begins
flight_of kinds.Release answers.Visible = Returns
flight_of kinds.Delete answers.Deleted = Leaves
flight_of kinds.Redrive answers.Out = Leaves
flight_of kinds.Move answers.Out = Leaves
flight_of kinds.Expire answers.Expired = Leaves
flight_of kind answer = Stays

-- the number of a row's message in its queue
abbrev pub number_of : Option MessageId → ℕ
number_of (Some id) = id.number
number_of None = 0

-- the messages in flight, by their numbers in ascending order, with one more row
abbrev pub flying_with : Flight → ℕ → List ℕ → List ℕ
flying_with Begins n ns = insert_key nat_cmp ns n
flying_with Stays n ns = ns
flying_with flight n ns = remove_key (is_at (nat_cmp n)) ns

-- the messages in flight after these rows of a queue
abbrev pub flying : List Row → List ℕ
flying rows = fold (λ ns (row : Row). flying_with (flight_of row.kind row.answer) (number_of row.message) ns) [] rows

-- how many there are
abbrev pub in_flight : List Row → ℕ
in_flight rows = length (flying rows)

-- the messages that are there, by their numbers in ascending order, with the moments at which they came
abbrev pub there_with : Bool → Flight → ℕ → ℕ → List (ℕ × ℕ) → List (ℕ × ℕ)
there_with true flight n at ms = insert_entry nat_cmp ms n at
there_with false Leaves n at ms = remove_entry (is_at (nat_cmp n)) ms
there_with false flight n at ms = ms

-- whether a row brings a message into a queue
abbrev pub comes_in : Option ℕ → Bool
comes_in column = is_column 0 column || is_column 8 column

abbrev pub there_by : List (ℕ × ℕ) → Row → List (ℕ × ℕ)
there_by ms row =
    let comes = comes_in (column row.kind row.answer) in
    there_with comes (flight_of row.kind row.answer) (number_of row.message) row.key.at ms

abbrev pub there : List Row → List (ℕ × ℕ)
there rows = fold there_by [] rows

-- how long the first of these messages has been there at a moment: the oldest, since they come by their numbers
abbrev pub age_of_oldest : ℕ → List (ℕ × ℕ) → ℕ
age_of_oldest at ms = unwrap_or (option_map (λ (m : ℕ × ℕ). at - m.1) (slice_get ms 0)) 0

-- the same where a message leaves, by the rows before, and else 0
abbrev pub age_by : Flight → ℕ → List (ℕ × ℕ) → ℕ
age_by Leaves at ms = age_of_oldest at ms
age_by flight at ms = 0

abbrev pub age_before : List Row → Row → ℕ
age_before before row = age_by (flight_of row.kind row.answer) row.key.at (there before)

-- the greatest age of the oldest message as one left in a stretch; and so, or at the last moment of the stretch
abbrev pub oldest_before : Stretch → List Row → Peak
oldest_before s rows = fold higher (record { at = s.from; number = 0 }) (levels_from age_before s [] rows)

abbrev pub oldest : Stretch → List Row → Peak
oldest s rows =
    higher (oldest_before s rows) (record { at = s.until - 1; number = age_of_oldest (s.until - 1) (there rows) })

-- the receipt of a row, if it has one
abbrev pub receipt_of : RowReceipt → Option Receipt
receipt_of (receipts.Made receipt) = Some receipt
receipt_of (receipts.Given handle) = read_receipt handle
receipt_of receipts.Absent = None

-- a receipt of a queue with this number, by the number of its message there and by how often that had been received
abbrev pub of_queue : ℕ → Option Receipt → Option (ℕ × ℕ)
of_queue queue (Some r) = cond (r.site == queue) (Some (r.number, r.count)) None
of_queue queue None = None

-- the receipt of a row, if it is one of its queue
abbrev pub own_receipt : Row → Option (ℕ × ℕ)
own_receipt row = of_queue row.queue (receipt_of row.receipt)

-- how often the message of a row had been received in its queue, if the row deleted it: its receipt is the newest, and
-- counts the receives
abbrev pub tries_when : Bool → Option (ℕ × ℕ) → Option ℕ
tries_when true receipt = option_map (λ (r : ℕ × ℕ). r.1) receipt
tries_when false receipt = None

-- how often each of the messages that rows deleted had been received
abbrev pub tries : List Row → List ℕ
tries rows = filter_map (λ row. tries_when (counts_in 4 row) (own_receipt row)) rows

-- what tries come to: how many messages were received once, and how many more often
abbrev pub tries_of : List ℕ → Tries
tries_of ns =
    record {
      once = length (filter (λ n. n == 1) ns);
      again = length (filter (λ n. nat_lt 1 n) ns);
      sum = sum ns;
      greatest = greatest ns;
    }

-- the rows of which something holds, given the rows before them; `before` come before all
abbrev pub rows_where : (List Row → Row → Bool) → List Row → List Row → List Row
rows_where holds before [] = []
rows_where holds before (row ∷ rows) =
    cond (holds before row) (row ∷ []) [] ++ rows_where holds (before ++ row ∷ []) rows

-- what a row does with its receipt: a receive gives it; a call deletes with it, or is made with it; a service fails
abbrev pub use_of : RowKind → RowAnswer → Use
use_of kinds.Receive answers.Ok = Gives
use_of kinds.Delete answers.Deleted = Deletes
use_of kinds.Delete answer = Calls
use_of kinds.Fail answer = Fails
use_of kind answer = Passes

-- the order of receipts, by the numbers of their messages and by their counts
abbrev pub receipt_cmp : ℕ × ℕ → ℕ × ℕ → Ordering
receipt_cmp = then_cmp (on (λ r. r.0) nat_cmp) (on (λ r. r.1) nat_cmp)

-- the unused receipts, in their order, with one more row: they were given, no call to delete was made with them, and
-- their service did not fail
abbrev pub unused_with : Use → Option (ℕ × ℕ) → List (ℕ × ℕ) → List (ℕ × ℕ)
unused_with what None rs = rs
unused_with Gives (Some r) rs = insert_key receipt_cmp rs r
unused_with Passes (Some r) rs = rs
unused_with what (Some r) rs = remove_key (is_at (receipt_cmp r)) rs

-- these receipts after these rows of a queue
abbrev pub unused : List Row → List (ℕ × ℕ)
unused rows = fold (λ rs (row : Row). unused_with (use_of row.kind row.answer) (own_receipt row) rs) [] rows

-- whether a row that does this handles a receive: it deletes the message, or is a call with an unused receipt
abbrev pub is_handled : Use → Option (ℕ × ℕ) → List (ℕ × ℕ) → Bool
is_handled Deletes (Some r) rs = true
is_handled Calls (Some r) rs = list_any (is_at (receipt_cmp r)) rs
is_handled what receipt rs = false

-- the same of a row, given the rows before
abbrev pub handles : List Row → Row → Bool
handles before row = is_handled (use_of row.kind row.answer) (own_receipt row) (unused before)

-- the message of a receipt
abbrev pub message_of : Option (ℕ × ℕ) → ℕ
message_of (Some r) = r.0
message_of None = 0

-- how often it happened to a message with this number, which is among those to which it did
abbrev pub times : ℕ → List (ℕ × ℕ) → ℕ
times n again = unwrap_or (lookup (is_at (nat_cmp n)) again) 1

-- messages to which something happened, with one to which it did once more
abbrev pub once_more : ℕ → Often → Often
once_more n o =
    let had = list_any (λ m. m == n) o.all in
    let more = times n o.again + 1 in
    record {
      all = insert_key nat_cmp o.all n;
      again = cond had (insert_entry nat_cmp o.again n more) o.again;
      greatest = max o.greatest (cond had more 1);
    }

abbrev pub never : Often
never = record { all = []; again = []; greatest = 0 }

-- the messages with the numbers of those rows of a stretch of which something holds, given all rows before them
abbrev pub often : (List Row → Row → Bool) → (Row → ℕ) → Stretch → List Row → Often
often holds number s rows = fold (λ o row. once_more (number row) o) never (rows_within s (rows_where holds [] rows))

-- the messages of a queue that were handled in a stretch, and those that were received
abbrev pub handled : Stretch → List Row → Often
handled s rows = often handles (λ row. message_of (own_receipt row)) s rows

-- whether a row gives a message
abbrev pub gives : Use → Bool
gives Gives = true
gives what = false

abbrev pub received : Stretch → List Row → Often
received s rows = often (λ before row. gives (use_of row.kind row.answer)) (λ row. number_of row.message) s rows

-- the messages of a queue that stay there by a row that does this to its message, by their numbers
abbrev pub staying : Flight → ℕ → List ℕ → List ℕ
staying Leaves n ns = remove_key (is_at (nat_cmp n)) ns
staying flight n ns = ns

-- the messages that are in a queue and came by a move, by their numbers in ascending order, with a row that counts as
-- this and does this to its message
abbrev pub moved_by : Option ℕ → Flight → ℕ → List ℕ → List ℕ
moved_by place flight n ns = cond (is_column 4 place) (insert_key nat_cmp ns n) (staying flight n ns)

-- with one more row
abbrev pub moved_with : ℕ → List ℕ → Row → List ℕ
moved_with queues ns row = moved_by (count_of_row queues row) (flight_of row.kind row.answer) (number_of row.message) ns

-- these messages after these rows of a queue
abbrev pub moved_here : ℕ → List Row → List ℕ
moved_here queues rows = fold (moved_with queues) [] rows

-- whether the message of a row had come by a move, given the rows before
abbrev pub is_moved : ℕ → List Row → Row → Bool
is_moved queues before row = list_any (λ n. n == number_of row.message) (moved_here queues before)

-- the rows of moved messages, and those of all others, which are new to the queue
abbrev pub rows_of_moved : ℕ → List Row → List Row
rows_of_moved queues rows = rows_where (is_moved queues) [] rows

abbrev pub rows_of_new : ℕ → List Row → List Row
rows_of_new queues rows = rows_where (λ before row. not (is_moved queues before row)) [] rows

-- what a row of an actor changes of the messages that it holds
abbrev pub hold_of : RowKind → RowAnswer → Hold
hold_of kinds.Receive answers.Ok = Takes
hold_of kinds.Receive answers.Wait = Waits
hold_of kinds.Receive answer = Asks
hold_of kinds.Delete answer = Settles
hold_of kinds.Fail answer = Settles
hold_of kind answer = Keeps

-- what it holds after a row that changes this
abbrev pub held_with : Hold → Held → Held
held_with Takes h = record { number = cond h.receiving (h.number + 1) 1; receiving = true }
held_with Settles h = record { number = h.number - 1; receiving = false }
held_with Keeps h = h
held_with hold h = record { number = 0; receiving = false }

-- what it holds after one more row
abbrev pub held_by : Held → Row → Held
held_by h row = held_with (hold_of row.kind row.answer) h

-- what it holds after these rows of it
abbrev pub held_after : List Row → Held
held_after rows = fold held_by (record { number = 0; receiving = false }) rows

-- whether it serves after these rows of it: whether it holds messages
abbrev pub is_serving : List Row → Bool
is_serving rows = nat_lt 0 (held_after rows).number

-- how long something held, in a stretch: of the rows before, from a moment to the next row's, and so on to the end
abbrev pub time_from : (List Row → Bool) → Stretch → List Row → ℕ → List Row → ℕ
time_from holds s before at [] = cond (holds before) (overlap s at s.until) 0
time_from holds s before at (row ∷ rows) =
    cond (holds before) (overlap s at row.key.at) 0 + time_from holds s (before ++ row ∷ []) row.key.at rows

-- how long something held of the rows so far, in a stretch, in milliseconds
abbrev pub time_while : (List Row → Bool) → Stretch → List Row → ℕ
time_while holds s rows = time_from holds s [] 0 rows

-- whether the messages in flight are as many as a queue may have
abbrev pub is_full : ℕ → List Row → Bool
is_full quota rows = nat_le quota (in_flight rows)

-- whether more messages than so many are there and not in flight
abbrev pub is_backlog : ℕ → List Row → Bool
is_backlog few rows = nat_lt few (depth rows - in_flight rows)

-- whether a backlog begins with a row, or ends
abbrev pub begins_backlog : ℕ → List Row → Row → Bool
begins_backlog few before row = not (is_backlog few before) && is_backlog few (before ++ row ∷ [])

abbrev pub ends_backlog : ℕ → List Row → Row → Bool
ends_backlog few before row = is_backlog few before && not (is_backlog few (before ++ row ∷ []))

-- the moment of the last of some rows
abbrev pub last_moment : List Row → Option ℕ
last_moment rows = fold (λ at (row : Row). Some row.key.at) None rows

-- the last moment in a stretch at which a backlog ended, unless there is one in the end; and since when there is that
abbrev pub backlog_gone : ℕ → Stretch → List Row → Option ℕ
backlog_gone few s rows =
    cond (is_backlog few rows) None (last_moment (rows_within s (rows_where (ends_backlog few) [] rows)))

abbrev pub backlog_since : ℕ → List Row → Option ℕ
backlog_since few rows = cond (is_backlog few rows) (last_moment (rows_where (begins_backlog few) [] rows)) None

-- the agents whose polls wait, by their numbers in ascending order, with one more row
abbrev pub waiting_with : Hold → ℕ → List ℕ → List ℕ
waiting_with Waits n ns = insert_key nat_cmp ns n
waiting_with Takes n ns = remove_key (is_at (nat_cmp n)) ns
waiting_with Asks n ns = remove_key (is_at (nat_cmp n)) ns
waiting_with hold n ns = ns

-- these agents after these rows
abbrev pub waiting : List Row → List ℕ
waiting rows = fold (λ ns (row : Row). waiting_with (hold_of row.kind row.answer) row.agent ns) [] rows

-- to whom and when a row gave a message, if it did, and whether the last row did to this agent at this moment
abbrev pub given_by : Hold → ℕ → ℕ → Option Given
given_by Takes agent at = Some (record { agent = agent; at = at })
given_by hold agent at = None

abbrev pub last_given : List Row → Option Given
last_given rows = fold (λ given (row : Row). given_by (hold_of row.kind row.answer) row.agent row.key.at) None rows

abbrev pub is_given : Option Given → ℕ → ℕ → Bool
is_given (Some given) agent at = (given.agent == agent) && (given.at == at)
is_given None agent at = false

-- whether a row is the first of a request: no answer to a poll that waits, nor a further message of the same receive
abbrev pub is_asked : Hold → Bool → Bool → Bool
is_asked Takes waits given = not (waits || given)
is_asked Waits waits given = true
is_asked Asks waits given = not waits
is_asked hold waits given = false

abbrev pub begins_receive : List Row → Row → Bool
begins_receive before row =
    is_asked (hold_of row.kind row.answer) (list_any (λ n. n == row.agent) (waiting before))
    (is_given (last_given before) row.agent row.key.at)

-- how many receives were asked for
abbrev pub receives_asked : Stretch → List Row → ℕ
receives_asked s rows = length (rows_within s (rows_where begins_receive [] rows))

-- whether a row is the first message of a receive, and how many receives gave messages
abbrev pub is_first : Hold → Bool → Bool
is_first Takes given = not given
is_first hold given = false

abbrev pub begins_batch : List Row → Row → Bool
begins_batch before row = is_first (hold_of row.kind row.answer) (is_given (last_given before) row.agent row.key.at)

abbrev pub batches : Stretch → List Row → ℕ
batches s rows = length (rows_within s (rows_where begins_batch [] rows))

-- the window of time in which a moment lies, by its number, and the first moment of a window
abbrev pub window_of : Wanted → ℕ → ℕ
window_of w at = cond (w.window == 0) 0 ((at - w.stretch.from) / w.window)

abbrev pub start_of : Wanted → ℕ → ℕ
start_of w n = w.stretch.from + n * w.window

-- the worse of two windows, the second of which has this number and age, if it has any; the first one if they are equal
abbrev pub worse : Option Worst → ℕ → Option ℕ → Option Worst
worse worst n None = worst
worse None n (Some age) = Some (record { number = n; age = age })
worse (Some worst) n (Some age) = Some (cond (nat_lt worst.age age) (record { number = n; age = age }) worst)

-- the nearest rank of numbers in ascending order: the least such that `percent` of 100 are at or below it
abbrev pub rank_in : ℕ → List ℕ → Option ℕ
rank_in percent sorted = slice_get sorted ((percent * length sorted + 99) / 100 - 1)

-- the worst window by the 95th percentile of its ages, of which those of the last one are in ascending order
abbrev pub worst_of : Windows → Option Worst
worst_of w = worse w.worst w.number (rank_in 95 w.ages)

-- with the age in one more row, if it has one: the rows of a window come one after another
abbrev pub windows_with : ℕ → Option ℕ → Windows → Windows
windows_with n None w = w
windows_with n (Some age) w =
    cond (w.number == n) (record w { ages = put age w.ages })
    (record { number = n; ages = age ∷ []; worst = worst_of w })

abbrev pub no_windows : Windows
no_windows = record { number = 0; ages = []; worst = None }

-- the windows of the ages in these rows
abbrev pub windows_by : Wanted → Windows → Row → Windows
windows_by w x row = windows_with (window_of w row.key.at) (age_when (counts_in 4 row) row.detail) x

abbrev pub windows : Wanted → List Row → Windows
windows w rows = fold (windows_by w) no_windows rows

-- how long each of these messages has been there at a moment
abbrev pub ages_at : ℕ → List (ℕ × ℕ) → List ℕ
ages_at at ms = map (λ m. at - m.1) ms

-- those of these messages that are among these numbers, or those that are not
abbrev pub apart : Bool → List ℕ → List (ℕ × ℕ) → List (ℕ × ℕ)
apart among ns ms = filter (λ m. cond (list_any (λ n. n == m.0) ns) among (not among)) ms

-- the nearest rank of numbers in ascending order, and of so many more that are above all of them, if it is one of them
abbrev pub rank_below : ℕ → ℕ → List ℕ → Option ℕ
rank_below percent more sorted = slice_get sorted ((percent * (length sorted + more) + 99) / 100 - 1)

-- the least and the greatest that a percentile of ages, in ascending order, can be once the messages that are left end
-- too, which have these ages now: as if each ended now, and as if none ever did
abbrev pub bounds_at : ℕ → List ℕ → List ℕ → List (Option ℕ)
bounds_at percent ended left =
    rank_in percent (ascending (ended ++ left)) ∷ rank_below percent (length left) ended ∷ []

-- the same of the worst window, where they are left in the last one, which has this number and these ages
abbrev pub bounds_after : Option Worst → ℕ → List ℕ → List ℕ → List (Option ℕ)
bounds_after before n ended left =
    let worse_age : Option ℕ → Option ℕ = λ age. option_map (λ (x : Worst). x.age) (worse before n age) in
    let most = rank_below 95 (length left) ended in
    worse_age (rank_in 95 (ascending (ended ++ left)))
    ∷ cond (is_some most || length left == 0) (worse_age most) None ∷ []

abbrev pub window_bounds : ℕ → Windows → List ℕ → List (Option ℕ)
window_bounds n w left =
    cond (w.number == n) (bounds_after w.worst n w.ages left) (bounds_after (worst_of w) n [] left)

-- a figure: its name and its number, if there is one
abbrev pub Figure : Type 0
Figure = List ℕ × Option ℕ

-- the counts by their names
abbrev pub named_counts : List ℕ → List Figure
named_counts ns = map (λ p. (p.0, Some p.1)) (zip count_names ns)

-- the requests by the actions of SQS, from the counts and from how many receives were asked for: a forward is sent as
-- it arrives, and a refused request is one
unfoldable pub named_requests : ℕ → List ℕ → List Figure
named_requests receives counts =
    let of : ℕ → ℕ = λ n. get_or counts n 0 in
    let sends = of 0 + of 1 + of 2 + of 5 + of 18 in
    let deletes = of 9 + of 10 + of 11 + of 20 in
    let changes = of 12 + of 21 in
    let starts = of 22 + of 24 in
    let cancels = of 23 + of 25 in
    (codes "SendMessage", Some sends) ∷ (codes "ReceiveMessage", Some receives) ∷ (codes "DeleteMessage", Some deletes)
    ∷ (codes "ChangeMessageVisibility", Some changes) ∷ (codes "StartMessageMoveTask", Some starts)
    ∷ (codes "CancelMessageMoveTask", Some cancels)
    ∷ (codes "requests", Some (sends + receives + deletes + changes + starts + cancels))
    ∷ (codes "refused_requests", Some (of 18 + of 19 + of 20 + of 21 + of 24 + of 25)) ∷ []

-- a peak by its names, the first with the unit of its number
abbrev pub named_peak : List ℕ → List ℕ → Peak → List Figure
named_peak name unit peak =
    (name ++ codes "_greatest" ++ unit, Some peak.number) ∷ (name ++ codes "_greatest_at_ms", Some peak.at) ∷ []

-- tries by their names
abbrev pub named_tries : Tries → List Figure
named_tries t =
    (codes "received_once", Some t.once) ∷ (codes "received_again", Some t.again) ∷ (codes "tries_sum", Some t.sum)
    ∷ (codes "tries_greatest", Some t.greatest) ∷ []

-- the messages that were handled, and those that were received, by their names
unfoldable pub named_often : Often → Often → List Figure
named_often handled received =
    (codes "handled_once", Some (length handled.all - length handled.again))
    ∷ (codes "handled_again", Some (length handled.again)) ∷ (codes "handled_greatest", Some handled.greatest)
    ∷ (codes "received_messages", Some (length received.all)) ∷ (codes "received_greatest", Some received.greatest) ∷ []

-- the names of the figures of ages
abbrev pub age_names : List ℕ → List (List ℕ)
age_names name =
    map (λ what. name ++ what)
    (codes "_sum_ms" ∷ codes "_p50_ms" ∷ codes "_p95_ms" ∷ codes "_p99_ms" ∷ codes "_greatest_ms"
    ∷ codes "_window_p95_ms" ∷ codes "_window_p95_at_ms" ∷ [])

-- no ages, and these with one more in the window with this number; ages are in ascending order
abbrev pub no_aged : Aged
no_aged = record { ages = []; windows = no_windows }

abbrev pub aged_with : ℕ → ℕ → Aged → Aged
aged_with n age a = record { ages = put age a.ages; windows = windows_with n (Some age) a.windows }

-- the numbers of the figures of ages in ascending order
abbrev pub age_numbers : Wanted → Aged → List (Option ℕ)
age_numbers w a =
    let worst = worst_of a.windows in
    Some (sum a.ages) ∷ rank_in 50 a.ages ∷ rank_in 95 a.ages ∷ rank_in 99 a.ages ∷ rank_in 100 a.ages
    ∷ option_map (λ (x : Worst). x.age) worst ∷ option_map (λ (x : Worst). start_of w x.number) worst ∷ []

-- these figures
abbrev pub ages_named : List ℕ → Wanted → Aged → List Figure
ages_named name w a = zip (age_names name) (age_numbers w a)

-- the ages in these rows by these names
abbrev pub named_ages : List ℕ → Wanted → List Row → List Figure
named_ages name w rows =
    let all = ages rows in
    let worst = worst_of (windows w rows) in
    zip (age_names name) (Some (sum all) ∷ rank 50 all ∷ rank 95 all ∷ rank 99 all ∷ rank 100 all
    ∷ option_map (λ (x : Worst). x.age) worst ∷ option_map (λ (x : Worst). start_of w x.number) worst ∷ [])

-- the names of the bounds of ages
abbrev pub bound_names : List ℕ → List (List ℕ)
bound_names name =
    flat_map (λ what. (name ++ what ++ codes "_least_ms") ∷ (name ++ what ++ codes "_most_ms") ∷ [])
    (codes "_p50" ∷ codes "_p95" ∷ codes "_p99" ∷ codes "_greatest" ∷ codes "_window_p95" ∷ [])

-- the bounds of ages and of their windows, with the ages of the messages that are left at the last moment of a stretch
abbrev pub bound_numbers : Wanted → List ℕ → Windows → List ℕ → List (Option ℕ)
bound_numbers w ended x left =
    bounds_at 50 ended left ++ (bounds_at 95 ended left ++ (bounds_at 99 ended left ++ (bounds_at 100 ended left
    ++ window_bounds (window_of w (w.stretch.until - 1)) x left)))

-- the bounds of the ages in these rows by these names, with the messages that are left
abbrev pub named_bounds : List ℕ → Wanted → List Row → List (ℕ × ℕ) → List Figure
named_bounds name w rows ms =
    zip (bound_names name)
    (bound_numbers w (ascending (ages rows)) (windows w rows) (ascending (ages_at (w.stretch.until - 1) ms)))

-- what is left of a queue's messages, how long as many were in flight as may be, and its last backlog
abbrev pub named_left : QueueAsked → Wanted → List Row → List Figure
named_left q w rows =
    (codes "left", Some (depth rows)) ∷ (codes "left_in_flight", Some (in_flight rows))
    ∷ (codes "quota_ms", Some (time_while (is_full q.quota) w.stretch rows))
    ∷ (codes "backlog_gone_at_ms", backlog_gone w.backlog w.stretch rows)
    ∷ (codes "backlog_since_ms", backlog_since w.backlog rows) ∷ []

-- the bounds of the ages of a queue's messages, of the new ones and of the moved ones
abbrev pub queue_bounds : ℕ → Wanted → List Row → List Figure
queue_bounds queues w rows =
    let s = w.stretch in
    let moved = moved_here queues rows in
    named_bounds (codes "age") w (rows_within s rows) (there rows)
    ++ (named_bounds (codes "new_age") w (rows_within s (rows_of_new queues rows)) (apart false moved (there rows))
    ++ named_bounds (codes "moved_age") w (rows_within s (rows_of_moved queues rows)) (apart true moved (there rows)))

-- the figures of a queue over its rows, where so many queues are the first agents
abbrev pub queue_figures : ℕ → Wanted → QueueAsked → List Row → List Figure
queue_figures queues w q rows =
    let s = w.stretch in
    let counts = counts_of queues (rows_within s rows) in
    named_counts counts ++ (named_requests (receives_asked s rows) counts
    ++ (named_peak (codes "depth") [] (peak_of depth s rows)
    ++ (named_peak (codes "in_flight") [] (peak_of in_flight s rows)
    ++ (named_peak (codes "oldest_age") (codes "_ms") (oldest s rows)
    ++ (named_left q w rows ++ (named_tries (tries_of (tries (rows_within s rows)))
    ++ (named_often (handled s rows) (received s rows) ++ (named_ages (codes "age") w (rows_within s rows)
    ++ (named_ages (codes "new_age") w (rows_within s (rows_of_new queues rows))
    ++ (named_ages (codes "moved_age") w (rows_within s (rows_of_moved queues rows))
    ++ queue_bounds queues w rows))))))))))

-- a time in thousandths of a stretch, rounded down
abbrev pub permille : Stretch → ℕ → Option ℕ
permille s ms = cond (nat_lt s.from s.until) (Some (1000 * ms / (s.until - s.from))) None

-- the services that ended by these counts, how many receives gave messages, and how long the actor was busy
unfoldable pub named_services : Stretch → List ℕ → ℕ → ℕ → List Figure
named_services s counts batches busy =
    let of : ℕ → ℕ = λ n. get_or counts n 0 in
    (codes "services", Some (of 9 + of 10 + of 11 + of 20 + of 13)) ∷ (codes "batches", Some batches)
    ∷ (codes "busy_ms", Some busy) ∷ (codes "busy_permille", permille s busy) ∷ []

-- the figures of an actor over its rows
abbrev pub actor_figures : ℕ → Stretch → List Row → List Figure
actor_figures queues s rows =
    let counts = counts_of queues (rows_within s rows) in
    named_counts counts
    ++ (named_requests (receives_asked s rows) counts
    ++ named_services s counts (batches s rows) (time_while is_serving s rows))

-- the fields of a figure of a queue or actor with this name
abbrev pub figure_fields : List ℕ → Figure → List (List ℕ)
figure_fields of f = codes "figure" ∷ of ∷ f.0 ∷ text_if decimal f.1 ∷ []
