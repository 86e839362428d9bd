-- What rows say: their kinds and answers, and what the rows before one row say of its message.
use Rattle.std.specs.List.{list_any, range_with_len}
use Rattle.std.specs.Prelude.{Bool, List, None, Option, Some, count_by, false, filter, find, fold, if◌then◌else◌, is_some, map, not, true, ℕ, ◌&&◌, ◌++◌, ◌==◌, ◌∷◌, ◌≡◌, ◌||◌}
use Rattle.sqs_message.specs.declared.ids.MessageId.{MessageId}
use Rattle.sqs_message.specs.declared.ids.Origin.{Origin}
use Rattle.sqs_message.specs.declared.message.Place.{Place}
use Rattle.sqs_message.specs.declared.message.Place.TheVariants.{InFlight}
use Rattle.sqs_message.specs.declared.row.Detail.{Detail}
use Rattle.sqs_message.specs.declared.row.Detail.TheVariants as details
use Rattle.sqs_message.specs.declared.row.Row.{Row}
use Rattle.sqs_message.specs.declared.row.RowAnswer.{RowAnswer}
use Rattle.sqs_message.specs.declared.row.RowAnswer.TheVariants as answers
use Rattle.sqs_message.specs.declared.row.RowKind.{RowKind}
use Rattle.sqs_message.specs.declared.row.RowKind.TheVariants as kinds
use Rattle.sqs_model.specs.Accounts.{is_deleted, is_expired, is_first, origin_in, same_id}

-- kinds of rows
abbrev pub is_send : RowKind → Bool
is_send kinds.Send = true
is_send _ = false

abbrev pub is_receive : RowKind → Bool
is_receive kinds.Receive = true
is_receive _ = false

abbrev pub is_delete : RowKind → Bool
is_delete kinds.Delete = true
is_delete _ = false

abbrev pub is_change : RowKind → Bool
is_change kinds.Change = true
is_change _ = false

abbrev pub is_fail : RowKind → Bool
is_fail kinds.Fail = true
is_fail _ = false

abbrev pub is_forward : RowKind → Bool
is_forward kinds.Forward = true
is_forward _ = false

abbrev pub is_release : RowKind → Bool
is_release kinds.Release = true
is_release _ = false

abbrev pub is_redrive : RowKind → Bool
is_redrive kinds.Redrive = true
is_redrive _ = false

abbrev pub is_move : RowKind → Bool
is_move kinds.Move = true
is_move _ = false

abbrev pub is_arrive : RowKind → Bool
is_arrive kinds.Arrive = true
is_arrive _ = false

-- answers of rows
abbrev pub is_new : RowAnswer → Bool
is_new answers.New = true
is_new _ = false

abbrev pub is_repeat : RowAnswer → Bool
is_repeat answers.Repeat = true
is_repeat _ = false

abbrev pub is_ok : RowAnswer → Bool
is_ok answers.Ok = true
is_ok _ = false

abbrev pub is_refused : RowAnswer → Bool
is_refused (answers.Refused e) = true
is_refused _ = false

abbrev pub is_gone : RowAnswer → Bool
is_gone answers.Gone = true
is_gone _ = false

-- a message comes to its queue; it is received; its timeout is changed; it leaves its queue for good
abbrev pub comes : Row → Bool
comes r = is_new r.answer

abbrev pub received : Row → Bool
received r = is_receive r.kind && is_ok r.answer

abbrev pub changed : Row → Bool
changed r = is_change r.kind && is_ok r.answer

abbrev pub leaves : Row → Bool
leaves r = is_deleted r.answer || is_expired r.answer || is_redrive r.kind || is_move r.kind

-- whether a detail is this queue
abbrev pub tells_queue : ℕ → Detail → Bool
tells_queue n (details.Queue to) = to == n
tells_queue n _ = false

-- a message is sent on its way to a queue: as a dead letter, by a forward or by a move; one arrives there
abbrev pub sends_on : RowKind → Bool
sends_on kind = is_redrive kind || is_forward kind || is_move kind

abbrev pub goes_to : ℕ → Row → Bool
goes_to n r = sends_on r.kind && tells_queue n r.detail

abbrev pub arrives_at : ℕ → Row → Bool
arrives_at n r = is_arrive r.kind && r.queue == n

-- a message is received, changed, released, redriven or moved
abbrev pub touches : Row → Bool
touches r = received r || changed r || is_release r.kind || is_redrive r.kind || is_move r.kind

-- a row names a message
abbrev pub names : MessageId → Row → Bool
names m r = same_id (Some m) r.message

-- what holds of each row, with the rows before it
abbrev pub EachRow : List Row → (List Row → Row → Type 0) → Type 0
EachRow rows P = (before : List Row) (r : Row) (after : List Row) → rows ≡ before ++ (r ∷ after) → P before r

-- what holds of each row that names a message
abbrev pub EachNaming : List Row → (List Row → Row → MessageId → Type 0) → Type 0
EachNaming rows P = EachRow rows (λ before r. (m : MessageId) → r.message ≡ Some m → P before r m)

-- how many messages came to a queue
abbrev pub comings : ℕ → List Row → ℕ
comings n rows = count_by (λ r. comes r && r.queue == n) rows

-- how often a message was received since it came
abbrev pub times : MessageId → List Row → ℕ
times m rows = count_by (λ r. received r && names m r) rows

-- whether a message has left its queue
abbrev pub has_left : MessageId → List Row → Bool
has_left m rows = list_any (λ r. leaves r && names m r) rows

-- whether a message was released since it came
abbrev pub was_released : MessageId → List Row → Bool
was_released m rows = list_any (λ r. is_release r.kind && names m r) rows

-- the origin that the row tells by which a message came
abbrev pub origin_of : MessageId → List Row → Option Origin
origin_of m rows = fold (λ o r. if comes r && names m r then origin_in r (Some m) else o) None rows

-- the last of some rows that name a message, if there is one
abbrev pub last_naming : (Row → Bool) → MessageId → List Row → Option Row
last_naming such m rows = fold (λ t r. if such r && names m r then Some r else t) None rows

-- the row by which a message came to its queue, and by which it was last received
abbrev pub came_by : MessageId → List Row → Option Row
came_by m rows = last_naming comes m rows

abbrev pub received_by : MessageId → List Row → Option Row
received_by m rows = last_naming received m rows

-- the row by which the message of an origin was accepted: it was sent, or a forward arrived
abbrev pub accepted_by : Origin → List Row → Option Row
accepted_by o rows = find (is_first o) rows

-- the receive or change by which a message is in flight, if it is
abbrev pub flight : MessageId → List Row → Option Row
flight m rows =
    fold (λ f r. if not (names m r) then f
    else (if received r || changed r then Some r
    else (if is_release r.kind || leaves r then None else f))) None rows

-- whether it is in flight
abbrev pub flying : MessageId → List Row → Bool
flying m rows = is_some (flight m rows)

-- the messages that came to a queue, in the order of their numbers
abbrev pub that_came : ℕ → List Row → List MessageId
that_came n rows = map (λ i. record { site = n; number = i }) (range_with_len 0 (comings n rows))

-- those of them that have not left it
abbrev pub that_stay : ℕ → List Row → List MessageId
that_stay n rows = filter (λ m. not (has_left m rows)) (that_came n rows)

-- whether a message is in flight where it is at the end
abbrev pub is_in_flight : Place → Bool
is_in_flight InFlight = true
is_in_flight _ = false

-- how many of the messages that came to a queue are in flight
abbrev pub in_flight_at : ℕ → List Row → ℕ
in_flight_at n rows = count_by (λ m. flying m rows) (that_came n rows)

-- the rows that may still name a message that has left
abbrev pub may_follow : Row → Bool
may_follow r = is_gone r.answer || is_repeat r.answer || is_fail r.kind || is_forward r.kind
