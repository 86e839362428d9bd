-- The rules of SQS as laws of the log: of its rows, in order, and of the settings of its scenario, and of nothing
-- else.
use Rattle.std.specs.List.{range_with_len}
use Rattle.std.specs.Prelude.{All, Bool, IsTrue, List, None, Some, count_by, false, flat_map, length, map, max, suc, true, zero, if◌then◌else◌, nat_le, nat_lt, not, slice_get, ℕ, ◌&&◌, [], ◌*◌, ◌+◌, ◌++◌, ◌-◌, ◌<◌, ◌==◌, ◌∷◌, ◌≡◌, ◌≤◌, ◌⊎◌, ◌||◌, Option}
use Rattle.sim_clock.specs.declared.refusal.Refusal.TheVariants as refusals
use Rattle.sim_engine.specs.Members.{In}
use Rattle.sqs_message.specs.declared.ids.MessageId.{MessageId}
use Rattle.sqs_message.specs.declared.ids.Origin.{Origin}
use Rattle.sqs_message.specs.declared.row.Detail.TheVariants as details
use Rattle.sqs_message.specs.declared.row.Row.{Row}
use Rattle.sqs_message.specs.declared.row.RowAnswer.{RowAnswer}
use Rattle.sqs_message.specs.declared.row.RowAnswer.TheVariants as answers
use Rattle.sqs_message.specs.declared.row.RowReceipt.TheVariants as receipts
use Rattle.sqs_message.specs.Ids.{read_receipt}
use Rattle.sqs_redrive.specs.declared.settings.Kind.{Kind}
use Rattle.sqs_redrive.specs.declared.settings.Kind.TheVariants.{Fifo, Standard}
use Rattle.sqs_redrive.specs.declared.settings.Latency.{Latency}
use Rattle.sqs_redrive.specs.declared.settings.Policy.{Policy}
use Rattle.sqs_redrive.specs.declared.settings.QueueSettings.{QueueSettings}
use Rattle.md5.specs.Md5.{md5}
use Rattle.sqs_model.specs.declared.agents.ActorSettings.{ActorSettings}
use Rattle.sqs_model.specs.Accounts.{is_deleted, is_expired, origin_in}
use Rattle.sqs_model.specs.declared.finals.FinalMessage.{FinalMessage}
use Rattle.sqs_model.specs.declared.finals.FinalTransfer.{FinalTransfer}
use Rattle.sqs_model.specs.Longest.{deduplication_interval, longest_flight, longest_timeout}
use Rattle.sqs_model.specs.Scenario.{Scenario, least_latency}
use Rattle.sqs_laws.specs.Sends.{AsksFor, AsksToChangeAs, Given, GivesAs, IsByCall, IsSender, delay_given, key_given, milliseconds_or}
use Rattle.sqs_laws.specs.Words.{EachNaming, EachRow, accepted_by, arrives_at, came_by, changed, comes, comings, flight, flying, goes_to, has_left, in_flight_at, is_arrive, is_change, is_delete, is_gone, is_in_flight, is_move, is_redrive, is_refused, is_release, is_repeat, is_send, may_follow, origin_of, received, received_by, that_stay, times, touches, was_released}

-- The end is the end. The messages that come to a queue are numbered from 0 on, and no row names one before it comes.
-- Once it was deleted, has expired, or left for another queue, only answers gone and repeat and a consumer's fail and
-- forward name it again; and gone is answered only then.
pub record TheEnd (rows : List Row) : Type 0 where
  pub numbered : EachNaming rows (λ before r m. IsTrue (comes r)
      → m ≡ record { site = r.queue; number = comings r.queue before })
  pub came : EachNaming rows (λ before r m. comes r ≡ false
      → (m.site ≡ r.queue) × (m.number < comings r.queue before))
  pub after : EachNaming rows (λ before r m. IsTrue (has_left m before) → IsTrue (may_follow r))
  pub gone : EachNaming rows (λ before r m. IsTrue (is_gone r.answer) → IsTrue (has_left m before))

-- the policy of a row's queue
abbrev pub HasPolicy : Scenario → Row → Policy → Type 0
HasPolicy s r p = (q : QueueSettings) × (slice_get s.queues r.queue ≡ Some q) × (q.policy ≡ Some p)

-- what left at one moment may arrive at another: after the least latency or later, and just then if no other is allowed
abbrev pub MayArrive : Latency → ℕ → ℕ → Type 0
MayArrive l left at = (left + l.least ≤ at) × (l.greatest ≤ l.least → at ≡ left + l.least)

-- a message left its queue by one row as the dead letter that came to another queue by a later row: it had the same
-- origin, and took the latency of its queue
pub record IsDeadLetter (s : Scenario) (rows before : List Row) (by left : Row) (m : MessageId) : Type 0 where
  pub after : List Row
  pub split : rows ≡ before ++ (left ∷ after)
  pub redriven : IsTrue (is_redrive left.kind)
  pub named : left.message ≡ Some m
  pub from : left.queue ≡ by.agent
  pub to : left.detail ≡ details.Queue by.queue
  pub late : (p : Policy) → HasPolicy s left p → MayArrive p.latency left.key.at by.key.at
  pub origin : origin_of m before ≡ origin_in by by.message

-- Dead letters. A message that comes back leaves for its queue's dead_letter if it was received exactly max_receives
-- times since it came, and is released if fewer times. It is never received more often. Without dead_letter none
-- leaves. What arrives from a queue left it so before.
pub record DeadLetters (s : Scenario) (rows : List Row) : Type 0 where
  pub leaves : EachNaming rows (λ before r m. IsTrue (is_redrive r.kind)
      → (p : Policy) × HasPolicy s r p
      × (times m before ≡ p.max_receives) × (r.detail ≡ details.Queue p.dead_letter))
  pub stays : EachNaming rows (λ before r m. IsTrue (is_release r.kind || received r)
      → (p : Policy) → HasPolicy s r p → times m before < p.max_receives)
  pub arrives : EachRow rows (λ before r. IsTrue (is_arrive r.kind && comes r) → r.agent < length s.queues
      → (left : Row) × (earlier : List Row) × (m : MessageId) × IsDeadLetter s before earlier r left m)

-- a receipt of the queue of a row and of a message that came there, with the count of a receive
pub record Known (before : List Row) (r : Row) (m : MessageId) (count : ℕ) : Type 0 where
  pub text : List ℕ
  pub given : r.receipt ≡ receipts.Given text
  pub read : read_receipt text ≡ Some (record { site = m.site; number = m.number; count = count })
  pub here : m.site ≡ r.queue
  pub came : m.number < comings r.queue before

-- whether the queue of a row is a FIFO queue
abbrev pub is_fifo : Kind → Bool
is_fifo (Standard hosts sampled) = false
is_fifo (Fifo content_dedup scope) = true

abbrev pub fifo_at : Scenario → Row → Bool
fifo_at s r = elim (slice_get s.queues r.queue) as (λ _. Bool) [ None ↦ false | Some q ↦ is_fifo q.kind ]

-- whether a receipt is the newest of a message that may be deleted: at a FIFO queue it is in flight
abbrev pub deletes : Bool → List Row → MessageId → ℕ → Bool
deletes fifo before m count = count == times m before && (not fifo || flying m before)

-- the answer to a delete by a receipt that was given, or is yet to come
abbrev pub delete_answer : Bool → List Row → MessageId → ℕ → RowAnswer
delete_answer fifo before m count =
    if has_left m before then answers.Gone
    else (if nat_lt (times m before) count then answers.Refused refusals.ReceiptHandleIsInvalid
    else (if deletes fifo before m count then answers.Deleted
    else (if fifo then answers.Refused refusals.ReceiptHandleIsInvalid else answers.Kept)))

-- the answer to a change by such a receipt, unless it asks for more than 12 hours
abbrev pub change_answer : List Row → MessageId → ℕ → RowAnswer
change_answer before m count =
    if not (has_left m before) && nat_lt (times m before) count
    then answers.Refused refusals.ReceiptHandleIsInvalid
    else (if flying m before && count == times m before then answers.Ok
    else answers.Refused refusals.MessageNotInflight)

-- a change for so many seconds would keep its message in flight for more than 12 hours after its last receive
pub record IsOverLongest (before : List Row) (r : Row) (seconds : ℕ) : Type 0 where
  pub message : MessageId
  pub count : ℕ
  pub known : Known before r message count
  pub newest : IsTrue (flying message before && count == times message before)
  pub received : Row
  pub last : received_by message before ≡ Some received
  pub over : received.key.at + longest_flight < r.key.at + 1000 * seconds

-- a change asks for so many seconds, which it tells if it is ok; it is BadTimeout just if these are more than 12 hours,
-- or end too late
pub record IsBadIfTooLong (s : Scenario) (before : List Row) (r : Row) : Type 0 where
  pub text : List ℕ
  pub given : r.receipt ≡ receipts.Given text
  pub seconds : ℕ
  pub asked : (q : QueueSettings) → slice_get s.queues r.queue ≡ Some q
      → AsksToChangeAs s q r.agent r.key.at text seconds
  pub told : IsTrue (changed r) → r.detail ≡ details.Timeout seconds
  pub bad : r.answer ≡ answers.Refused refusals.BadTimeout → (longest_timeout < seconds)
      ⊎ IsOverLongest before r seconds
  pub too_long : (longest_timeout < seconds) ⊎ IsOverLongest before r seconds
      → r.answer ≡ answers.Refused refusals.BadTimeout

-- Receipts. The c-th receive of message n at queue S gives the receipt r-S-n-c. A delete by it is gone if the message
-- has left, deleted if it is the newest (at a FIFO queue: of a message in flight), kept if it is an older one at a
-- standard queue, and else ReceiptHandleIsInvalid, as for a receipt never given. A change is ok if it is the newest
-- of a message in flight, and else MessageNotInflight, or ReceiptHandleIsInvalid if never given; or it is BadTimeout,
-- just if it asks for more than 12 hours or would keep the message in flight for longer after its last receive.
pub record Receipts (s : Scenario) (rows : List Row) : Type 0 where
  pub made : EachNaming rows (λ before r m. IsTrue (received r)
      → r.receipt ≡ receipts.Made (record { site = r.queue; number = m.number; count = times m before + 1 }))
  pub deletes : EachRow rows (λ before r. IsTrue (is_delete r.kind)
      → (m : MessageId) (count : ℕ) → Known before r m count
      → r.answer ≡ delete_answer (fifo_at s r) before m count)
  pub changes : EachRow rows (λ before r. IsTrue (is_change r.kind)
      → (m : MessageId) (count : ℕ) → Known before r m count
      → (r.answer ≡ change_answer before m count) ⊎ (r.answer ≡ answers.Refused refusals.BadTimeout))
  pub timeouts : EachRow rows (λ before r. IsTrue (is_change r.kind) → IsBadIfTooLong s before r)
  pub others : EachRow rows (λ before r. IsTrue (is_delete r.kind || is_change r.kind)
      → ((m : MessageId) × (count : ℕ) × Known before r m count)
      ⊎ ((r.answer ≡ answers.Refused refusals.ReceiptHandleIsInvalid)
      ⊎ (IsTrue (is_change r.kind) × (r.answer ≡ answers.Refused refusals.BadTimeout))))

-- In flight. A message that was received and has not left is not received or moved until it is released. Only a message
-- in flight has its timeout changed, or leaves for the dead-letter queue. A queue never has more of its messages in
-- flight than its in_flight.
pub record InFlight (s : Scenario) (rows : List Row) : Type 0 where
  pub once : EachNaming rows (λ before r m. IsTrue (received r || is_move r.kind) → flying m before ≡ false)
  pub flies : EachNaming rows (λ before r m. IsTrue (changed r || is_redrive r.kind) → flying m before ≡ true)
  pub limit : EachRow rows (λ before r. (q : QueueSettings) → slice_get s.queues r.queue ≡ Some q
      → in_flight_at r.queue (before ++ r ∷ []) ≤ q.in_flight_limit)

-- Origins. A receive tells the origin that the row told by which the message came to its queue.
pub record Origins (rows : List Row) : Type 0 where
  pub told : EachNaming rows (λ before r m. IsTrue (received r)
      → (o : Origin) × (origin_of m before ≡ Some o) × (r.detail ≡ details.From o))

-- whether a message that came by a row keeps the age that it had: a dead letter at a standard queue does
abbrev pub keeps_age : Scenario → Row → Bool
keeps_age s by = (is_arrive by.kind && nat_lt by.agent (length s.queues)) && not (fifo_at s by)

-- a message counts as enqueued at a moment, and has kept its age so many times since as a dead letter
abbrev pub EnqueuedAfter : Scenario → ℕ → List Row → MessageId → ℕ → Type 0
EnqueuedAfter s zero rows m moment =
    (by : Row) × (came_by m rows ≡ Some by) × (keeps_age s by ≡ false) × (moment ≡ by.key.at)
EnqueuedAfter s (suc times) rows m moment =
    (by : Row) × (came_by m rows ≡ Some by) × IsTrue (keeps_age s by)
    × (left : Row) × (before : List Row) × (letter : MessageId) × IsDeadLetter s rows before by left letter
    × EnqueuedAfter s times before letter moment

abbrev pub EnqueuedAt : Scenario → List Row → MessageId → ℕ → Type 0
EnqueuedAt s rows m moment = (times : ℕ) × EnqueuedAfter s times rows m moment

-- what a row tells of a message in its queue that counts as enqueued at a moment, until the end of its retention
pub record TellsAge (r : Row) (moment end : ℕ) : Type 0 where
  pub over : r.key.at ≤ end
  pub expires : IsTrue (is_expired r.answer) → r.key.at ≡ end
  pub age : IsTrue (is_deleted r.answer || is_expired r.answer) → r.detail ≡ details.Age (r.key.at - moment)

-- a message that came by a row is in its queue until an end at the latest, which is past the horizon if it stays
pub record IsKeptUntil (s : Scenario) (rows : List Row) (m : MessageId) (by : Row) (moment end : ℕ) : Type 0 where
  pub enqueued : EnqueuedAt s rows m moment
  pub there : EachNaming rows (λ before r n. n ≡ m → came_by m before ≡ Some by → has_left m before ≡ false
      → TellsAge r moment end)
  pub at_last : has_left m rows ≡ false → s.horizon < end

-- Retention. A message counts as enqueued when it comes to a queue; but a dead letter at a standard queue, as long ago
-- as the message that left for it. Its retention ends so long after, but not before it comes. It expires exactly then:
-- no row from after that moment names it as there, and that of what is left at the end lies past the horizon. A delete
-- or an expiry tells the age.
pub record Retention (s : Scenario) (rows : List Row) : Type 0 where
  pub kept : (m : MessageId) (by : Row) (q : QueueSettings) → came_by m rows ≡ Some by
      → slice_get s.queues m.site ≡ Some q
      → (moment : ℕ) × IsKeptUntil s rows m by moment (max by.key.at (moment + q.retention))

-- Sends. A message that a script or a producer sent to its queue is what it gives at that moment, and the row tells the
-- digest of its body.
pub record Sends (s : Scenario) (rows : List Row) : Type 0 where
  pub given : EachRow rows (λ before r. IsTrue (is_send r.kind && comes r)
      → (a : ActorSettings) → slice_get s.actors (r.agent - length s.queues) ≡ Some a → IsSender a.role
      → (x : Given) × GivesAs s r.agent r.key.at x × (r.detail ≡ details.Digest (md5 x.body)))

-- a message has this group: with it the message of its origin was sent to a FIFO queue
pub record HasGroup (s : Scenario) (rows : List Row) (m : MessageId) (group : List ℕ) : Type 0 where
  pub origin : Origin
  pub told : origin_of m rows ≡ Some origin
  pub by : Row
  pub accepted : accepted_by origin rows ≡ Some by
  pub sent : IsTrue (is_send by.kind && fifo_at s by)
  pub given : (x : Given) × GivesAs s by.agent by.key.at x × (x.group ≡ Some group)

-- FIFO. When a message of a FIFO queue is received, each message of its group that came before it and is still in the
-- queue was received by the same call; and no message of the group that came after it is in flight. This is of messages
-- that were sent to a FIFO queue, also when they came on as dead letters or by a move task.
pub record FifoOrder (s : Scenario) (rows : List Row) : Type 0 where
  pub before : EachNaming rows (λ before r m. IsTrue (received r && fifo_at s r)
      → (n : MessageId) (g : List ℕ) → n.site ≡ r.queue → HasGroup s before m g → HasGroup s before n g
      → n.number < m.number → has_left n before ≡ false → IsByCall r (flight n before))
  pub after : EachNaming rows (λ before r m. IsTrue (received r && fifo_at s r)
      → (n : MessageId) (g : List ℕ) → n.site ≡ r.queue → HasGroup s before m g → HasGroup s before n g
      → m.number < n.number → flying n before ≡ false)

-- two rows send the same to a queue: what their actors give has one deduplication id and one scope
abbrev pub SendTheSame : Scenario → Row → Row → Type 0
SendTheSame s r x =
    (q : QueueSettings) → slice_get s.queues r.queue ≡ Some q → IsTrue (is_send r.kind && is_send x.kind)
    → (a b : Given) → GivesAs s r.agent r.key.at a → GivesAs s x.agent x.key.at b
    → key_given q.kind a ≡ key_given q.kind b

-- a row of a queue repeats a message: by another row that message came there, less than 5 minutes before, and if both
-- are sends they send the same
pub record RepeatsRecent (s : Scenario) (before : List Row) (r : Row) : Type 0 where
  pub message : MessageId
  pub by : Row
  pub names : r.message ≡ Some message
  pub came : came_by message before ≡ Some by
  pub recent : r.key.at < by.key.at + deduplication_interval
  pub same : SendTheSame s r by

-- two rows may send the same to a queue: what an actor of each gives has one deduplication id and one scope
abbrev pub MaySendTheSame : Scenario → Row → Row → Type 0
MaySendTheSame s r x =
    (q : QueueSettings) × (slice_get s.queues r.queue ≡ Some q)
    × (a : Given) × (b : Given) × GivesAs s r.agent r.key.at a × GivesAs s x.agent x.key.at b
    × (key_given q.kind a ≡ key_given q.kind b)

-- Repeats. A row with the answer repeat is of a FIFO queue, and names a message that came there less than 5 minutes
-- before. If it is of a send and the message was sent, both sends have one deduplication id, in one scope. At a
-- standard queue nothing is a repeat. At a FIFO queue a send is a repeat, or refused, if one with its deduplication id
-- and scope was new there less than 5 minutes before.
pub record Repeats (s : Scenario) (rows : List Row) : Type 0 where
  pub fifo : EachRow rows (λ before r. IsTrue (is_repeat r.answer) → IsTrue (fifo_at s r))
  pub recent : EachRow rows (λ before r. IsTrue (is_repeat r.answer) → RepeatsRecent s before r)
  pub again : EachRow rows (λ before r. IsTrue (is_send r.kind && fifo_at s r)
      → (x : Row) → In before x → x.queue ≡ r.queue → IsTrue (is_send x.kind && comes x)
      → r.key.at < x.key.at + deduplication_interval → MaySendTheSame s r x
      → IsTrue (is_repeat r.answer || is_refused r.answer))

-- whether a number is that of an actor
abbrev pub is_actor_of : Scenario → ℕ → Bool
is_actor_of s n = nat_le (length s.queues) n && nat_lt n (length s.queues + length s.actors)

-- the delay of what arrives at a queue: the queue's if an actor forwarded it, and none if it was redriven or moved
abbrev pub delay_brought : Scenario → QueueSettings → Row → ℕ
delay_brought s q by = if is_actor_of s by.agent then q.delay else 0

-- a message came to its queue by a row, with this delay: of what was sent it is the one given, and else the queue's
pub record CameWith (s : Scenario) (rows : List Row) (m : MessageId) (by : Row) (delay : ℕ) : Type 0 where
  pub queue : QueueSettings
  pub settings : slice_get s.queues m.site ≡ Some queue
  pub came : came_by m rows ≡ Some by
  pub sent : IsTrue (is_send by.kind) → (x : Given) × GivesAs s by.agent by.key.at x × (delay ≡ delay_given queue x)
  pub arrived : is_send by.kind ≡ false → delay ≡ delay_brought s queue by

-- a message came with a delay, and is neither released yet nor gone
pub record IsDelayed (s : Scenario) (rows : List Row) (m : MessageId) (by : Row) (delay : ℕ) : Type 0 where
  pub came : CameWith s rows m by delay
  pub some : 0 < delay
  pub waits : was_released m rows ≡ false
  pub there : has_left m rows ≡ false

-- Delays. A message is not received, changed, released, redriven or moved before its delay is over; one that was
-- redriven or moved has none. What is released and was not in flight is so exactly at the end of its delay, once. While
-- a delay goes on its queue has no row from after its end, and it goes on past the horizon if it does so at the end of
-- the log.
pub record Delays (s : Scenario) (rows : List Row) : Type 0 where
  pub over : EachNaming rows (λ before r m. IsTrue (touches r)
      → (by : Row) (delay : ℕ) → CameWith s before m by delay → by.key.at + delay ≤ r.key.at)
  pub ends : EachNaming rows (λ before r m. IsTrue (is_release r.kind) → flying m before ≡ false
      → (by : Row) (delay : ℕ) → CameWith s before m by delay
      → (was_released m before ≡ false) × (0 < delay) × (r.key.at ≡ by.key.at + delay))
  pub goes_on : EachRow rows (λ before r. (m : MessageId) (by : Row) (delay : ℕ)
      → m.site ≡ r.queue → IsDelayed s before m by delay → r.key.at ≤ by.key.at + delay)
  pub at_last : (m : MessageId) (by : Row) (delay : ℕ) → IsDelayed s rows m by delay → s.horizon < by.key.at + delay

-- when the visibility timeout ends that a receive or a change began; that of a receive is asked for, or the queue's,
-- and at most 12 hours
pub record EndsAt (s : Scenario) (f : Row) (end : ℕ) : Type 0 where
  pub by_receive : IsTrue (received f) → (q : QueueSettings) × (timeout : Option ℕ)
      × (slice_get s.queues f.queue ≡ Some q) × AsksFor s f.agent f.key.at timeout
      × (end ≡ f.key.at + milliseconds_or q.visibility timeout)
  pub at_most : IsTrue (received f) → end ≤ f.key.at + longest_flight
  pub by_change : IsTrue (changed f) → (seconds : ℕ) × (f.detail ≡ details.Timeout seconds)
      × (end ≡ f.key.at + 1000 * seconds)

-- Releases. A message in flight is released, or leaves for the dead-letter queue, exactly at the end of the timeout of
-- its last receive or change. While it is in flight its queue has no row from after that, and at the end of the log it
-- ends past the horizon. No timeout ends later than 12 hours after the last receive.
pub record Releases (s : Scenario) (rows : List Row) : Type 0 where
  pub ends : EachNaming rows (λ before r m. IsTrue (is_release r.kind || is_redrive r.kind)
      → (f : Row) → flight m before ≡ Some f → EndsAt s f r.key.at)
  pub goes_on : EachRow rows (λ before r. (m : MessageId) (f : Row) → m.site ≡ r.queue → flight m before ≡ Some f
      → (end : ℕ) × EndsAt s f end × (r.key.at ≤ end))
  pub at_last : (m : MessageId) (q : QueueSettings) (f : Row) → slice_get s.queues m.site ≡ Some q
      → flight m rows ≡ Some f → (end : ℕ) × EndsAt s f end × (s.horizon < end)
  pub longest : EachNaming rows (λ before r m. IsTrue (changed r) → (seconds : ℕ) → r.detail ≡ details.Timeout seconds
      → (f : Row) × (received_by m before ≡ Some f) × (r.key.at + 1000 * seconds ≤ f.key.at + longest_flight))

-- Time. Rows are in the order of time, none after the horizon.
pub record InTime (s : Scenario) (rows : List Row) : Type 0 where
  pub order : EachRow rows (λ before r. All (λ x. x.key.at ≤ r.key.at) before)
  pub horizon : EachRow rows (λ before r. r.key.at ≤ s.horizon)

-- a log that keeps the rules
pub record KeepsTheRules (s : Scenario) (rows : List Row) : Type 0 where
  pub in_flight : InFlight s rows
  pub the_end : TheEnd rows
  pub dead_letters : DeadLetters s rows
  pub receipts : Receipts s rows
  pub origins : Origins rows
  pub retention : Retention s rows
  pub sends : Sends s rows
  pub fifo : FifoOrder s rows
  pub repeats : Repeats s rows
  pub delays : Delays s rows
  pub releases : Releases s rows
  pub in_time : InTime s rows

-- What is left. The final queues have just the messages that came to a queue and have not left it, queue by queue in
-- the order of their numbers. One of them is in flight just if the rows say so. It was received as often as they say,
-- and has the origin that they tell.
pub record WhatIsLeft (s : Scenario) (rows : List Row) (left : List FinalMessage) : Type 0 where
  pub messages : map (λ m. m.id) left ≡ flat_map (λ n. that_stay n rows) (range_with_len 0 (length s.queues))
  pub in_flight : All (λ m. is_in_flight m.place ≡ flying m.id rows) left
  pub received : All (λ m. m.receives ≡ times m.id rows) left
  pub origins : All (λ m. origin_of m.id rows ≡ Some m.origin) left

-- Journeys. As many messages were sent on to a queue as arrived there and are still under way. By any moment no more
-- had arrived there than were sent on at least the least latency of the scenario before it.
pub record Journeys (s : Scenario) (rows : List Row) (under_way : List FinalTransfer) : Type 0 where
  pub all : (n : ℕ) → n < length s.queues
      → count_by (goes_to n) rows ≡ count_by (arrives_at n) rows + count_by (λ t. t.to == n) under_way
  pub in_time : (n moment : ℕ) → n < length s.queues
      → count_by (λ r. arrives_at n r && nat_le r.key.at moment) rows
      ≤ count_by (λ r. goes_to n r && nat_le (r.key.at + least_latency s) moment) rows
