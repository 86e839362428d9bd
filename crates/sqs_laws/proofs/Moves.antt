-- What a row of a handling did to its queue.
use Rattle.std.specs.Prelude.{All, Bool, length, nat_lt, slice_get, Err, List, None, Ok, Option, Result, Some, [], false, true, ℕ, if◌then◌else◌, ◌*◌, ◌+◌, ◌++◌, ◌<◌, ◌==◌, ◌∷◌, ◌≡◌, ◌≢◌, ◌≤◌, ◌⊎◌, ◌-◌, ◌&&◌, ◌||◌}
use Rattle.std.proofs.Common.{ap, arith, inl, inr, refl, subst, sym, true≢false, ◌∙◌}
use Rattle.sqs_model.specs.Receive.{is_bad_timeout}
use Rattle.sqs_laws.proofs.Terms.{Actor, ActorSettings, All-push, All-weaker, all_changed, all_without, and-false, append-nil, append_assoc, ascends_changed, ascends_push, ascends_without, brought, change, Climbs, Consumer, Core, deduplication_interval, delete, Deleted, either, enqueued_at, Entry, Gone, has_number, id_of, In, in_flight, in_flight_until, in_left, is_deleted, is_expired, is_in_flight, is_visible, is_worn, IsFound, IsSoundRole, Kept, Key, leaves, Load, longest_flight, longest_timeout, Message, MessageId, numbered, of_all, or_parts, origin_in, Outbound, Place, Policy, Poll, Producer, Queue, read_receipt, Receipt, received, Refusal, Removed, Role, Row, RowAnswer, RowKind, same_group, Scaler, Scenario, Script, ScriptCall, taken_out, Task, visible_again, with_change, with_message}
use Rattle.sim_clock.specs.declared.refusal.Refusal.TheVariants as refusals
use Rattle.sqs_message.specs.declared.message.Place.TheVariants as places
use Rattle.sqs_message.specs.declared.row.Detail.TheVariants as details
use Rattle.sqs_message.specs.declared.row.RowAnswer.TheVariants as answers
use Rattle.sqs_message.specs.declared.row.RowKind.TheVariants as kinds
use Rattle.sqs_message.specs.declared.row.RowReceipt.TheVariants as receipts
use Rattle.sqs_redrive.specs.declared.transfers.Load.TheVariants as loads
use Rattle.sqs_message.specs.declared.ids.Origin.{Origin}
use Rattle.md5.specs.Md5.{md5}
use Rattle.sqs_message.specs.declared.calls.Call.TheVariants as calls
use Rattle.sqs_laws.specs.Sends.{AsksBy, AsksToChangeAs, Given, GivesAs, IsByCall, IsSender, delay_given, key_given, milliseconds_or}
use Rattle.sqs_laws.specs.Laws.{EnqueuedAt, HasPolicy, MayArrive, fifo_at, is_actor_of, is_fifo}
use Rattle.sqs_laws.specs.Words as words

-- a deduplication entry of a queue, or a new one of the message that comes to it, which lives for 5 minutes
abbrev pub IsEntered : Key → Queue → Entry → Type 0
IsEntered key q e = In q.entries e ⊎ ((e.number ≡ q.arrivals) × (e.end ≡ key.at + deduplication_interval))

-- the entries with which a message comes: such ones, and of those that were there all that live
pub record AreEntered (key : Key) (q : Queue) (entries : List Entry) : Type 0 where
  pub each : All (IsEntered key q) entries
  pub kept : (e : Entry) → In q.entries e → key.at < e.end → In entries e

-- a message that comes at a moment and waits for the end of its delay, if it has one
pub record Waits (at delay : ℕ) (m : Message) : Type 0 where
  pub place : m.place ≡ (if delay == 0 then places.Visible else places.Delayed)
  pub release : m.release ≡ (if delay == 0 then None else Some (at + delay))

-- what is sent has the delay that is given, and at a FIFO queue the group
pub record IsGiven (q : Queue) (at : ℕ) (x : Given) (m : Message) : Type 0 where
  pub delay : Waits at (delay_given q.settings x) m
  pub group : is_fifo q.settings.kind ≡ true → m.group ≡ x.group

-- so it is not in flight
pub waits_rest : (at delay : ℕ) (m : Message) → Waits at delay m → is_in_flight m ≡ false
waits_rest at delay m w =
    let flies : Place → Bool = λ p. elim p as (λ _. Bool) [ places.Delayed ↦ false | places.Visible ↦ false | places.InFlight ↦ true ] in
    ap flies w.place ∙ either (λ p. flies p ≡ false) (delay == 0) places.Visible places.Delayed refl refl

-- what a row tells of a message: whether it comes, is received, is changed, is released or leaves
pub record Tells (r : Row) (comes received changed released leaves : Bool) : Type 0 where
  pub comes_so : words.comes r ≡ comes
  pub received_so : words.received r ≡ received
  pub changed_so : words.changed r ≡ changed
  pub released_so : words.is_release r.kind ≡ released
  pub leaves_so : words.leaves r ≡ leaves

-- the answer that the row of a delete tells
abbrev pub deleted_answer : Result Deleted Refusal → RowAnswer
deleted_answer (Ok (Removed age)) = answers.Deleted
deleted_answer (Ok Kept) = answers.Kept
deleted_answer (Ok Gone) = answers.Gone
deleted_answer (Err e) = answers.Refused e

-- a delete by a text, which may be no receipt
pub record AsksDelete (key : Key) (q : Queue) (r : Row) : Type 0 where
  pub text : List ℕ
  pub given : r.receipt ≡ receipts.Given text
  pub by : (x : Receipt) → read_receipt text ≡ Some x → r.answer ≡ deleted_answer (delete q key.at x).0
  pub none : read_receipt text ≡ None → r.answer ≡ answers.Refused refusals.ReceiptHandleIsInvalid

-- the answer that the row of a change tells
abbrev pub changed_answer : Result (Option Load) Refusal → RowAnswer
changed_answer (Ok left) = answers.Ok
changed_answer (Err e) = answers.Refused e

-- the answer of a send
abbrev pub IsSendAnswer : RowAnswer → Type 0
IsSendAnswer a = (words.is_new a || words.is_repeat a || words.is_refused a) ≡ true

-- what a row of a kind asks of its queue
abbrev pub Asks : Key → Queue → Row → RowKind → Type 0
Asks key q r kinds.Delete = AsksDelete key q r
Asks key q r kinds.Send = IsSendAnswer r.answer
Asks key q r kind = Unit {0}

-- the origin of the next message that is accepted at a queue
abbrev pub own_origin : Queue → Origin
own_origin q = record { site = q.site; number = q.arrivals }

module _ (key : Key) (q : Queue) (r : Row) (p : Queue) where
  -- a row that tells of no message that came, changed or left; it may name one that came before
  pub record Stays : Type 0 where
    pub same : q ≡ p
    pub tells : Tells r false false false false false
    pub old : (m : MessageId) → r.message ≡ Some m → (m.site ≡ q.site) × (m.number < q.arrivals)
    pub follows : (m : MessageId) → r.message ≡ Some m → words.may_follow r ≡ false → IsFound (numbered m.number q.records)
    pub gone : words.is_gone r.answer ≡ true → (m : MessageId) → r.message ≡ Some m → numbered m.number q.records ≡ None

  -- a message that comes, with the next number; deduplication entries may come and go with it
  pub record Comes : Type 0 where
    pub one : Message
    pub entries : List Entry
    pub tells : Tells r true false false false false
    pub message : r.message ≡ Some (id_of q q.arrivals)
    pub number : one.number ≡ q.arrivals
    pub fresh : one.receives ≡ 0
    pub delay : ℕ
    pub waits : Waits key.at delay one
    pub told : origin_in r (Some (id_of q q.arrivals)) ≡ Some one.origin
    pub sent : words.is_send r.kind ≡ true → (one.enqueued ≡ key.at) × (one.origin ≡ own_origin q)
    pub entered : AreEntered key q entries
    pub after : with_message (record q { entries = entries }) one ≡ p

  -- a message of the queue that a row names
  pub record Names (one : Message) (number : ℕ) : Type 0 where
    pub there : numbered number q.records ≡ Some one
    pub message : r.message ≡ Some (id_of q number)
    pub sure : words.is_gone r.answer ≡ false

  -- it is received
  pub record Receives : Type 0 where
    pub one : Message
    pub number : ℕ
    pub timeout : ℕ
    pub tells : Tells r false true false false false
    pub names : Names one number
    pub rested : is_visible one ≡ true
    pub room : in_flight q < q.settings.in_flight_limit
    pub receipt : r.receipt ≡ receipts.Made (record { site = q.site; number = number; count = one.receives + 1 })
    pub origin : r.detail ≡ details.From one.origin
    pub after : with_change q number (received key.at timeout) ≡ p

  -- its timeout is changed
  pub record Changes : Type 0 where
    pub one : Message
    pub number : ℕ
    pub timeout : ℕ
    pub tells : Tells r false false true false false
    pub names : Names one number
    pub flies : is_in_flight one ≡ true
    pub told : r.detail ≡ details.Timeout timeout
    pub limit : key.at + 1000 * timeout ≤ one.received + longest_flight
    pub after : with_change q number (in_flight_until (key.at + 1000 * timeout)) ≡ p

  -- it may be received again
  pub record Releases : Type 0 where
    pub one : Message
    pub number : ℕ
    pub tells : Tells r false false false true false
    pub names : Names one number
    pub due : one.release ≡ Some key.at
    pub lasts : leaves q.settings.policy one ≡ false
    pub after : with_change q number visible_again ≡ p

  -- it leaves for the dead-letter queue of its queue
  pub record Redrives : Type 0 where
    pub one : Message
    pub number : ℕ
    pub policy : Policy
    pub tells : Tells r false false false false true
    pub names : Names one number
    pub due : one.release ≡ Some key.at
    pub by : q.settings.policy ≡ Some policy
    pub worn : is_worn policy one ≡ true
    pub kind : words.is_redrive r.kind ≡ true
    pub out : (is_deleted r.answer || is_expired r.answer) ≡ false
    pub to : r.detail ≡ details.Queue policy.dead_letter
    pub after : taken_out q number ≡ p

  -- it is deleted, expires or is moved
  pub record Ends : Type 0 where
    pub one : Message
    pub number : ℕ
    pub tells : Tells r false false false false true
    pub names : Names one number
    pub kind : words.is_redrive r.kind ≡ false
    pub rested : words.is_move r.kind ≡ true → is_visible one ≡ true
    pub after : taken_out q number ≡ p

  pub data Does : Type 0 where
    stays : Stays → Does
    comes : Comes → Does
    receives : Receives → Does
    changes : Changes → Does
    releases : Releases → Does
    redrives : Redrives → Does
    ends : Ends → Does

  -- a row of this handling at this queue
  pub record Move : Type 0 where
    pub at_key : r.key ≡ key
    pub at_site : r.queue ≡ q.site
    pub asked : Asks key q r r.kind
    pub does : Does

-- A message of a FIFO queue that is received after some rows: each of its group that came before it and is there is in
-- flight by the same call, and none that came after it is in flight.
pub record IsNext (past : List Row) (q : Queue) (r : Row) (n : ℕ) (one : Message) : Type 0 where
  pub before : (i : ℕ) (m : Message) → numbered i q.records ≡ Some m → same_group one m ≡ true → i < n → IsByCall r (words.flight (id_of q i) past)
  pub after : (i : ℕ) (m : Message) → numbered i q.records ≡ Some m → same_group one m ≡ true → n < i → is_in_flight m ≡ false

-- what the actor of a send gives has the scope and the deduplication id of an entry
abbrev pub HasKey : Scenario → Queue → Row → Entry → Type 0
HasKey s q r e = All (λ a. IsSoundRole a.role) s.actors → (x : Given) → GivesAs s r.agent r.key.at x → key_given q.settings.kind x ≡ (e.scope, Some e.id)

-- what is sent to a FIFO queue adds an entry, and no entry that lives has its scope and its deduplication id
pub record AddsEntry (s : Scenario) (q : Queue) (r : Row) (p : Queue) : Type 0 where
  pub entry : Entry
  pub there : In p.entries entry
  pub number : entry.number ≡ q.arrivals
  pub lives : entry.end ≡ r.key.at + deduplication_interval
  pub differs : (e : Entry) → In q.entries e → r.key.at < e.end → All (λ a. IsSoundRole a.role) s.actors → (x : Given) → GivesAs s r.agent r.key.at x → key_given q.settings.kind x ≢ (e.scope, Some e.id)

-- a row that repeats a message of a FIFO queue, by a deduplication entry that lives
pub record RepeatsEntry (s : Scenario) (q : Queue) (r : Row) : Type 0 where
  pub fifo : is_fifo q.settings.kind ≡ true
  pub entry : Entry
  pub there : In q.entries entry
  pub names : r.message ≡ Some (id_of q entry.number)
  pub lives : r.key.at < entry.end
  pub same : words.is_send r.kind ≡ true → HasKey s q r entry

-- a receive of a script that may give messages at a moment: it is made then, or a row tells that it has begun to wait
pub record IsCalled (past : List Row) (at : ℕ) (timeout : Option ℕ) (c : ScriptCall) : Type 0 where
  pub most : ℕ
  pub wait : ℕ
  pub call : c.call ≡ calls.Receive most wait timeout
  pub begun : (c.at ≡ at) ⊎ ((w : Row) × In past w × (w.key.at ≡ c.at))
  pub waits : at ≤ c.at + 1000 * wait

abbrev pub IsAskedFor : Scenario → List Row → ℕ → ℕ → Option ℕ → Type 0
IsAskedFor s past agent at timeout = (a : ActorSettings) × (slice_get s.actors (agent - length s.queues) ≡ Some a) × AsksBy (IsCalled past at timeout) a.role timeout × (is_bad_timeout timeout ≡ false)

pub asks_as : (C D : ScriptCall → Type 0) → ((c : ScriptCall) → C c → D c) → (role : Role) (timeout : Option ℕ) → AsksBy C role timeout → AsksBy D role timeout
asks_as C D f (Script cs) timeout x = (x.0, x.1, f x.0 x.2)
asks_as C D f (Consumer c) timeout x = x
asks_as C D f (Producer p) timeout x = absurd x
asks_as C D f (Scaler s) timeout x = absurd x

pub asks_later : (s : Scenario) (past more : List Row) (agent at : ℕ) (timeout : Option ℕ) → IsAskedFor s past agent at timeout → IsAskedFor s (past ++ more) agent at timeout
asks_later s past more agent at timeout (a, e, x, b) = (a, e, asks_as (IsCalled past at timeout) (IsCalled (past ++ more) at timeout) (λ c y. record { most = y.most; wait = y.wait; call = y.call; waits = y.waits; begun = elim y.begun as (λ _. (c.at ≡ at) ⊎ ((w : Row) × In (past ++ more) w × (w.key.at ≡ c.at))) [ inl n ↦ inl n | inr w ↦ inr (w.0, in_left past more w.0 w.1, w.2) ] }) a.role timeout x, b)

-- what is received is in flight until the end of the timeout that its receive asked for
pub record IsTimed (s : Scenario) (past : List Row) (q : Queue) (r : Row) (one : Message) : Type 0 where
  pub timeout : Option ℕ
  pub asked : IsAskedFor s past r.agent r.key.at timeout
  pub release : one.release ≡ Some (r.key.at + milliseconds_or q.settings.visibility timeout)

-- the group of the message of an origin: that with which it was sent, if it was sent to a FIFO queue
abbrev pub OfGroup : Scenario → List Row → Origin → Option (List ℕ) → Type 0
OfGroup s rows o group =
    (by : Row) × (words.accepted_by o rows ≡ Some by)
    × ((words.is_send by.kind && fifo_at s by) ≡ true → All (λ a. IsSoundRole a.role) s.actors → (x : Given) → GivesAs s by.agent by.key.at x → group ≡ x.group)

-- what a message of a queue brought to it, and since when it counts as enqueued, by the rows so far
pub record IsTraced (s : Scenario) (rows : List Row) (i : MessageId) (m : Message) : Type 0 where
  pub origin : words.origin_of i rows ≡ Some m.origin
  pub enqueued : EnqueuedAt s rows i m.enqueued
  pub group : OfGroup s rows m.origin m.group

-- so it is with the messages of a queue, and none was accepted yet that will get its next numbers
pub record AreTraced (s : Scenario) (rows : List Row) (q : Queue) : Type 0 where
  pub each : All (λ m. IsTraced s rows (id_of q m.number) m) q.records
  pub fresh : (n : ℕ) → q.arrivals ≤ n → words.accepted_by (record { site = q.site; number = n }) rows ≡ None

-- a dead letter under way, and the row by which it left
pub record IsUnderWay (s : Scenario) (rows : List Row) (o : Outbound) (id : MessageId) (group : Option (List ℕ)) (origin : Origin) (enqueued : ℕ) : Type 0 where
  pub sender : o.sender < length s.queues
  pub left : Row
  pub before : List Row
  pub after : List Row
  pub split : rows ≡ before ++ (left ∷ after)
  pub redriven : words.is_redrive left.kind ≡ true
  pub named : left.message ≡ Some id
  pub from : left.queue ≡ o.sender
  pub to : left.detail ≡ details.Queue o.to
  pub late : (p : Policy) → HasPolicy s left p → MayArrive p.latency left.key.at o.at
  pub told : words.origin_of id before ≡ Some origin
  pub since : EnqueuedAt s before id enqueued
  pub of_group : OfGroup s rows origin group

-- which agents send which loads: a queue what it redrives, a task what it moves, and an actor what it forwards
abbrev pub FitsLoad : Scenario → List Row → Outbound → Load → Type 0
FitsLoad s rows o (loads.Redrive id group origin body enqueued) = IsUnderWay s rows o id group origin enqueued
FitsLoad s rows o (loads.Move id group origin body) = (length s.queues + length s.actors ≤ o.sender) × OfGroup s rows origin group
FitsLoad s rows o (loads.Forward id group body) = is_actor_of s o.sender ≡ true

abbrev pub FitsSender : Scenario → List Row → Outbound → Type 0
FitsSender s rows o = FitsLoad s rows o o.load

-- the message that a load makes as it arrives
abbrev pub IsMadeBy : Queue → ℕ → Load → Message → Type 0
IsMadeBy q at (loads.Redrive id group origin body enqueued) m = m ≡ brought q at origin body group (enqueued_at q.settings.kind at enqueued) (Some id.site)
IsMadeBy q at (loads.Move id group origin body) m = m ≡ brought q at origin body group at None
IsMadeBy q at (loads.Forward id group body) m = (m.enqueued ≡ at) × Waits at q.settings.delay m × (m.origin ≡ own_origin q)

-- a message that a transfer brings
pub record IsBrought (s : Scenario) (past : List Row) (q : Queue) (r : Row) (m : Message) : Type 0 where
  pub transfer : Outbound
  pub fits : FitsSender s past transfer
  pub sender : transfer.sender ≡ r.agent
  pub to : transfer.to ≡ q.site
  pub at : transfer.at ≡ r.key.at
  pub arrives : words.is_arrive r.kind ≡ true
  pub made : IsMadeBy q r.key.at transfer.load m

-- a message came by a row of this moment
abbrev pub CameNow : List Row → MessageId → ℕ → Type 0
CameNow rows i at = (by : Row) × (words.came_by i rows ≡ Some by) × (by.key.at ≡ at)

-- a message that is deleted or expires tells its age, and expires at the end of its retention or as it comes
pub record IsEnd (past : List Row) (q : Queue) (r : Row) (n : ℕ) (m : Message) : Type 0 where
  pub age : r.detail ≡ details.Age (r.key.at - m.enqueued)
  pub over : is_expired r.answer ≡ true → (r.key.at ≡ m.enqueued + q.settings.retention) ⊎ ((m.enqueued + q.settings.retention ≤ r.key.at) × CameNow past (id_of q n) r.key.at)

-- the answer of a change by a text that is no receipt
abbrev pub unread_answer : ℕ → RowAnswer
unread_answer timeout = answers.Refused (if nat_lt longest_timeout timeout then refusals.BadTimeout else refusals.ReceiptHandleIsInvalid)

-- a change by a text, which may be no receipt, for so many seconds as its actor asks for
pub record AsksChange (s : Scenario) (q : Queue) (r : Row) : Type 0 where
  pub text : List ℕ
  pub given : r.receipt ≡ receipts.Given text
  pub timeout : ℕ
  pub own : AsksToChangeAs s q.settings r.agent r.key.at text timeout
  pub told : words.changed r ≡ true → r.detail ≡ details.Timeout timeout
  pub by : (x : Receipt) → read_receipt text ≡ Some x → r.answer ≡ changed_answer (change q r.key.at x timeout).0
  pub none : read_receipt text ≡ None → r.answer ≡ unread_answer timeout

-- What a row has to do with the settings, and with the rows before it. What is sent is what its actor gives, with its group and
-- with an entry of its deduplication id, and what arrives is what was under way. What a FIFO queue gives is the next of its
-- group, and what is repeated has an entry. What ends tells its age.
pub record IsBehind (s : Scenario) (past : List Row) (q : Queue) (r : Row) (p : Queue) : Type 0 where
  pub given : (words.is_send r.kind && words.comes r) ≡ true → (m : Message) → numbered q.arrivals p.records ≡ Some m → All (λ a. IsSoundRole a.role) s.actors → (x : Given) → GivesAs s r.agent r.key.at x → IsGiven q r.key.at x m
  pub next : words.received r ≡ true → is_fifo q.settings.kind ≡ true → (n : ℕ) (one : Message) → r.message ≡ Some (id_of q n) → numbered n q.records ≡ Some one → IsNext past q r n one
  pub timed : words.received r ≡ true → (n : ℕ) (one : Message) → r.message ≡ Some (id_of q n) → numbered n p.records ≡ Some one → IsTimed s past q r one
  pub repeats : words.is_repeat r.answer ≡ true → RepeatsEntry s q r
  pub sends : (words.is_send r.kind && words.comes r) ≡ true → (a : ActorSettings) → slice_get s.actors (r.agent - length s.queues) ≡ Some a → IsSender a.role → (x : Given) × GivesAs s r.agent r.key.at x × (r.detail ≡ details.Digest (md5 x.body))
  pub brought : words.comes r ≡ true → words.is_send r.kind ≡ false → (m : Message) → numbered q.arrivals p.records ≡ Some m → IsBrought s past q r m
  pub ends : 0 < q.settings.retention → (is_deleted r.answer || is_expired r.answer) ≡ true → (n : ℕ) (one : Message) → r.message ≡ Some (id_of q n) → numbered n q.records ≡ Some one → IsEnd past q r n one
  pub enters : (words.is_send r.kind && words.comes r) ≡ true → (e : Entry) → In p.entries e → e.number ≡ q.arrivals → HasKey s q r e
  pub anew : (words.is_send r.kind && words.comes r) ≡ true → is_fifo q.settings.kind ≡ true → AddsEntry s q r p
  pub asks : words.is_change r.kind ≡ true → AsksChange s q r

-- of a row by which nothing is sent, received, repeated or ended there is nothing to say
pub of_end : (s : Scenario) (past : List Row) (q : Queue) (r : Row) (p : Queue) → (words.is_change r.kind ≡ true → AsksChange s q r) → words.comes r ≡ false → words.received r ≡ false → words.is_repeat r.answer ≡ false → (0 < q.settings.retention → (is_deleted r.answer || is_expired r.answer) ≡ true → (n : ℕ) (one : Message) → r.message ≡ Some (id_of q n) → numbered n q.records ≡ Some one → IsEnd past q r n one) → IsBehind s past q r p
of_end s past q r p y n b c d =
    let a : (words.is_send r.kind && words.comes r) ≡ false = ap (λ x. words.is_send r.kind && x) n ∙ and-false (words.is_send r.kind) in
    record { brought = λ e. absurd (true≢false (sym e ∙ n)); sends = λ e. absurd (true≢false (sym e ∙ a)); enters = λ e. absurd (true≢false (sym e ∙ a)); anew = λ e. absurd (true≢false (sym e ∙ a)); asks = y; repeats = λ e. absurd (true≢false (sym e ∙ c)); ends = d; given = λ e m h k x i. absurd (true≢false (sym e ∙ a)); next = λ e f n one g h. absurd (true≢false (sym e ∙ b)); timed = λ e n one g h. absurd (true≢false (sym e ∙ b)) }

pub of_none : (s : Scenario) (past : List Row) (q : Queue) (r : Row) (p : Queue) → (words.is_change r.kind ≡ true → AsksChange s q r) → words.comes r ≡ false → words.received r ≡ false → words.is_repeat r.answer ≡ false → (is_deleted r.answer || is_expired r.answer) ≡ false → IsBehind s past q r p
of_none s past q r p y a b c d = of_end s past q r p y a b c (λ l e. absurd (true≢false (sym e ∙ d)))

pub of_one : (s : Scenario) (past : List Row) (q : Queue) (r : Row) (p : Queue) (n : ℕ) (m : Message) → words.is_change r.kind ≡ false → words.comes r ≡ false → words.received r ≡ false → words.is_repeat r.answer ≡ false → r.message ≡ Some (id_of q n) → numbered n q.records ≡ Some m → (0 < q.settings.retention → IsEnd past q r n m) → IsBehind s past q r p
of_one s past q r p n m y a b c f g w =
    of_end s past q r p (λ e. absurd (true≢false (sym e ∙ y))) a b c
    (λ l e k x i j.
    let both : Some (id_of q n) ≡ Some (id_of q k) = sym f ∙ i in
    let ids : id_of q n ≡ id_of q k = cc in
    let same : n ≡ k = ap (λ (y : MessageId). y.number) ids in
    let is : m ≡ x = let both : Some m ≡ Some x = sym g ∙ ap (λ y. numbered y q.records) same ∙ j in cc in
    subst (λ y. IsEnd past q r y x) same (subst (IsEnd past q r n) is (w l)))

-- only what leaves is deleted or expires
pub not_ended : (r : Row) → words.leaves r ≡ false → (is_deleted r.answer || is_expired r.answer) ≡ false
not_ended r l = (or_parts (is_deleted r.answer || is_expired r.answer) (words.is_redrive r.kind) (or_parts (is_deleted r.answer || is_expired r.answer || words.is_redrive r.kind) (words.is_move r.kind) l).0).0

pub tells_none : (s : Scenario) (past : List Row) (q : Queue) (r : Row) (p : Queue) → (words.is_change r.kind ≡ true → AsksChange s q r) → Tells r false false false false false → words.is_repeat r.answer ≡ false → IsBehind s past q r p
tells_none s past q r p y t n = of_none s past q r p y t.comes_so t.received_so n (not_ended r t.leaves_so)

-- rows one after another, behind the rows of the run so far
abbrev pub Chain : Scenario → List Row → Key → Queue → List Row → Queue → Type 0
Chain s past key q [] p = q ≡ p
Chain s past key q (r ∷ rs) p = (x : Queue) × Move key q r x × IsBehind s past q r x × Chain s (past ++ r ∷ []) key x rs p

-- a site's actors and tasks, and the polls that wait there
abbrev pub actors_of : Core → List Actor × List Poll × List Task
actors_of c = (c.actors, c.polls, c.tasks)

-- the messages of a queue are in the order of their numbers, and these and those of its entries were all given out
pub record IsStocked (q : Queue) : Type 0 where
  pub ordered : Climbs 0 q.records
  pub given_out : All (λ m. m.number < q.arrivals) q.records
  pub entries : All (λ e. e.number < q.arrivals) q.entries

-- what a row leaves of its queue as it was
pub record Keeps (q p : Queue) : Type 0 where
  pub site : q.site ≡ p.site
  pub settings : q.settings ≡ p.settings
  pub arrivals : q.arrivals ≤ p.arrivals
  pub stocked : IsStocked p

keeps_same : (q p : Queue) → q ≡ p → IsStocked q → Keeps q p
keeps_same q p e s = subst (Keeps q) e (record { site = refl; settings = refl; arrivals = omega arith; stocked = s })

-- a change of a message that leaves its number
changed_keeps : (q : Queue) (n : ℕ) (f : Message → Message) → ((m : Message) → (f m).number ≡ m.number) → IsStocked q → Keeps q (with_change q n f)
changed_keeps q n f same s =
    record {
      site = refl;
      settings = refl;
      arrivals = omega arith;
      stocked = record {
        ordered = ascends_changed (λ x. x.number) (has_number n) f (λ m _. same m) 0 q.records s.ordered;
        given_out = all_changed (has_number n) (λ m. m.number < q.arrivals) f (λ m l. rw (same m) l) q.records s.given_out;
        entries = s.entries;
      };
    }

taken_keeps : (q : Queue) (n : ℕ) → IsStocked q → Keeps q (taken_out q n)
taken_keeps q n s =
    record {
      site = refl;
      settings = refl;
      arrivals = omega arith;
      stocked = record {
        ordered = ascends_without (λ x. x.number) (has_number n) 0 q.records s.ordered;
        given_out = all_without (has_number n) (λ m. m.number < q.arrivals) q.records s.given_out;
        entries = s.entries;
      };
    }

pushed_keeps : (q : Queue) (m : Message) (entries : List Entry) → m.number ≡ q.arrivals → All (λ e. e.number < q.arrivals + 1) entries → IsStocked q → Keeps q (with_message (record q { entries = entries }) m)
pushed_keeps q m entries e o s =
    record {
      site = refl;
      settings = refl;
      arrivals = omega arith;
      stocked = record {
        ordered = ascends_push (λ x. x.number) 0 q.records m s.ordered (omega arith) (All-weaker (λ x. x.number < q.arrivals) (λ x. x.number < m.number) (λ x l. omega (arith, l, e)) q.records s.given_out);
        given_out = All-push (λ x. x.number < q.arrivals + 1) q.records m (All-weaker (λ x. x.number < q.arrivals) (λ x. x.number < q.arrivals + 1) (λ x l. omega (arith, l)) q.records s.given_out) (omega (arith, e));
        entries = o;
      };
    }

all_old : (key : Key) (q : Queue) (entries : List Entry) → IsStocked q → All (IsEntered key q) entries → All (λ e. e.number < q.arrivals + 1) entries
all_old key q entries s h =
    All-weaker (IsEntered key q) (λ (e : Entry). e.number < q.arrivals + 1)
    (λ e i. elim i as (λ _. e.number < q.arrivals + 1) [ inl k ↦ (let l : e.number < q.arrivals = of_all (λ (x : Entry). x.number < q.arrivals) q.entries e s.entries k in omega (arith, l)) | inr k ↦ omega (arith, k.0) ]) entries h

pub does_keep : (key : Key) (q : Queue) (r : Row) (p : Queue) → Does key q r p → IsStocked q → Keeps q p
does_keep key q r p (stays d) s = keeps_same q p d.same s
does_keep key q r p (comes d) s = subst (Keeps q) d.after (pushed_keeps q d.one d.entries d.number (all_old key q d.entries s d.entered.each) s)
does_keep key q r p (receives d) s = subst (Keeps q) d.after (changed_keeps q d.number (received key.at d.timeout) (λ m. refl) s)
does_keep key q r p (changes d) s = subst (Keeps q) d.after (changed_keeps q d.number (in_flight_until (key.at + 1000 * d.timeout)) (λ m. refl) s)
does_keep key q r p (releases d) s = subst (Keeps q) d.after (changed_keeps q d.number visible_again (λ m. refl) s)
does_keep key q r p (redrives d) s = subst (Keeps q) d.after (taken_keeps q d.number s)
does_keep key q r p (ends d) s = subst (Keeps q) d.after (taken_keeps q d.number s)

-- entries that live stay
pub entries_stay : (key : Key) (q : Queue) (r : Row) (p : Queue) → Does key q r p → (e : Entry) → In q.entries e → key.at < e.end → In p.entries e
entries_stay key q r p (stays d) e i l = subst (λ (y : Queue). In y.entries e) d.same i
entries_stay key q r p (comes d) e i l = subst (λ (y : Queue). In y.entries e) d.after (d.entered.kept e i l)
entries_stay key q r p (receives d) e i l = subst (λ (y : Queue). In y.entries e) d.after i
entries_stay key q r p (changes d) e i l = subst (λ (y : Queue). In y.entries e) d.after i
entries_stay key q r p (releases d) e i l = subst (λ (y : Queue). In y.entries e) d.after i
entries_stay key q r p (redrives d) e i l = subst (λ (y : Queue). In y.entries e) d.after i
entries_stay key q r p (ends d) e i l = subst (λ (y : Queue). In y.entries e) d.after i

pub chain_keeps : (s : Scenario) (past : List Row) (key : Key) (rs : List Row) (q p : Queue) → Chain s past key q rs p → IsStocked q → Keeps q p
chain_keeps s past key [] q p c k = keeps_same q p c k
chain_keeps s past key (r ∷ rs) q p (x, m, g, c) k =
    let one : Keeps q x = does_keep key q r x m.does k in
    let rest : Keeps x p = chain_keeps s (past ++ r ∷ []) key rs x p c one.stocked in
    record { site = one.site ∙ rest.site; settings = one.settings ∙ rest.settings; arrivals = omega (arith, one.arrivals, rest.arrivals); stocked = rest.stocked }

pub chain_append : (s : Scenario) (past : List Row) (key : Key) (rs ss : List Row) (q x p : Queue) → Chain s past key q rs x → Chain s (past ++ rs) key x ss p → Chain s past key q (rs ++ ss) p
chain_append s past key [] ss q x p c d = subst (λ y. Chain s past key y ss p) (sym c) (subst (λ b. Chain s b key x ss p) (append-nil past) d)
chain_append s past key (r ∷ rs) ss q x p (y, m, g, c) d =
    (y, m, g, chain_append s (past ++ r ∷ []) key rs ss y x p c (subst (λ b. Chain s b key x ss p) (sym (append_assoc past (r ∷ []) rs)) d))

pub one_move : (s : Scenario) (past : List Row) (key : Key) (q : Queue) (r : Row) (p : Queue) → Move key q r p → IsBehind s past q r p → Chain s past key q (r ∷ []) p
one_move s past key q r p m g = (p, m, g, refl)

-- a row that tells of a message that comes, is received or has its timeout changed is one by which this happens
pub record IsAsTold (key : Key) (q : Queue) (r : Row) (p : Queue) : Type 0 where
  pub comes : words.comes r ≡ true → Comes key q r p
  pub receives : words.received r ≡ true → Receives key q r p
  pub changes : words.changed r ≡ true → Changes key q r p

never : {A : Type 0} (b : Bool) → b ≡ false → b ≡ true → A
never b f t = absurd (true≢false (sym t ∙ f))

pub as_told : (key : Key) (q : Queue) (r : Row) (p : Queue) → Does key q r p → IsAsTold key q r p
as_told key q r p (comes d) = record { comes = λ t. d; receives = never (words.received r) d.tells.received_so; changes = never (words.changed r) d.tells.changed_so }
as_told key q r p (receives d) = record { comes = never (words.comes r) d.tells.comes_so; receives = λ t. d; changes = never (words.changed r) d.tells.changed_so }
as_told key q r p (changes d) = record { comes = never (words.comes r) d.tells.comes_so; receives = never (words.received r) d.tells.received_so; changes = λ t. d }
as_told key q r p (stays d) = record { comes = never (words.comes r) d.tells.comes_so; receives = never (words.received r) d.tells.received_so; changes = never (words.changed r) d.tells.changed_so }
as_told key q r p (releases d) = record { comes = never (words.comes r) d.tells.comes_so; receives = never (words.received r) d.tells.received_so; changes = never (words.changed r) d.tells.changed_so }
as_told key q r p (redrives d) = record { comes = never (words.comes r) d.tells.comes_so; receives = never (words.received r) d.tells.received_so; changes = never (words.changed r) d.tells.changed_so }
as_told key q r p (ends d) = record { comes = never (words.comes r) d.tells.comes_so; receives = never (words.received r) d.tells.received_so; changes = never (words.changed r) d.tells.changed_so }

-- what a message keeps as it is received, as its timeout changes, and as it comes back
pub record Survives (key : Key) (P : Message → Type 0) : Type 0 where
  pub receives : (t : ℕ) (m : Message) → P m → P (received key.at t m)
  pub changes : (t : ℕ) (m : Message) → P m → P (in_flight_until (key.at + 1000 * t) m)
  pub comes_back : (m : Message) → P m → P (visible_again m)

-- each message of a queue has it after a row, if each had it before and what comes has it
pub does_all : (key : Key) (q : Queue) (r : Row) (p : Queue) (P : Message → Type 0) → Survives key P → ((d : Comes key q r p) → P d.one) → Does key q r p → All P q.records → All P p.records
does_all key q r p P s c (stays d) h = subst (λ (y : Queue). All P y.records) d.same h
does_all key q r p P s c (comes d) h = subst (λ (y : Queue). All P y.records) d.after (All-push P q.records d.one h (c d))
does_all key q r p P s c (receives d) h = subst (λ (y : Queue). All P y.records) d.after (all_changed (has_number d.number) P (received key.at d.timeout) (s.receives d.timeout) q.records h)
does_all key q r p P s c (changes d) h = subst (λ (y : Queue). All P y.records) d.after (all_changed (has_number d.number) P (in_flight_until (key.at + 1000 * d.timeout)) (s.changes d.timeout) q.records h)
does_all key q r p P s c (releases d) h = subst (λ (y : Queue). All P y.records) d.after (all_changed (has_number d.number) P visible_again s.comes_back q.records h)
does_all key q r p P s c (redrives d) h = subst (λ (y : Queue). All P y.records) d.after (all_without (has_number d.number) P q.records h)
does_all key q r p P s c (ends d) h = subst (λ (y : Queue). All P y.records) d.after (all_without (has_number d.number) P q.records h)

-- a row names a message of its own queue alone
own_named : (q : Queue) (r : Row) (n : ℕ) (m : MessageId) → r.message ≡ Some (id_of q n) → r.message ≡ Some m → m.site ≡ q.site
own_named q r n m e f = let s : id_of q n ≡ m = cc in subst (λ (x : MessageId). x.site ≡ q.site) s refl

does_own : (key : Key) (q : Queue) (r : Row) (p : Queue) → Does key q r p → (m : MessageId) → r.message ≡ Some m → m.site ≡ q.site
does_own key q r p (stays d) m e = (d.old m e).0
does_own key q r p (comes d) m e = own_named q r q.arrivals m d.message e
does_own key q r p (receives d) m e = own_named q r d.number m d.names.message e
does_own key q r p (changes d) m e = own_named q r d.number m d.names.message e
does_own key q r p (releases d) m e = own_named q r d.number m d.names.message e
does_own key q r p (redrives d) m e = own_named q r d.number m d.names.message e
does_own key q r p (ends d) m e = own_named q r d.number m d.names.message e

pub moves_own : (key : Key) (q : Queue) (r : Row) (p : Queue) → Move key q r p → (m : MessageId) → r.message ≡ Some m → m.site ≡ r.queue
moves_own key q r p h m e = does_own key q r p h.does m e ∙ sym h.at_site
