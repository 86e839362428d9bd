-- Send, delete and change: the first case that holds gives the answer.
use Rattle.std.specs.Prelude.{Bool, Err, List, None, Ok, Option, Result, Some, [], false, filter, find, if◌then◌else◌, nat_lt, not, ℕ, ◌&&◌, ◌*◌, ◌++◌, ◌+◌, ◌-◌, ◌==◌, ◌||◌, ◌∷◌}
use Rattle.std.specs.Str.{bytes_eq}
use Rattle.sim_clock.specs.declared.refusal.Refusal.{Refusal}
use Rattle.sqs_message.specs.declared.ids.Receipt.{Receipt}
use Rattle.sqs_message.specs.declared.message.Message.{Message}
use Rattle.sqs_redrive.specs.declared.answers.Deleted.{Deleted}
use Rattle.sqs_redrive.specs.declared.answers.Deleted.TheVariants.{Gone, Kept, Removed}
use Rattle.sqs_redrive.specs.declared.answers.Sent.{Sent}
use Rattle.sqs_redrive.specs.declared.answers.Sent.TheVariants.{New, Repeat}
use Rattle.sqs_redrive.specs.declared.settings.Kind.{Kind}
use Rattle.sqs_redrive.specs.declared.settings.Kind.TheVariants.{Fifo, Standard}
use Rattle.sqs_redrive.specs.declared.settings.Scope.{Scope}
use Rattle.sqs_redrive.specs.declared.transfers.Load.{Load}
use Rattle.hex.specs.Hex.{encode_lower}
use Rattle.sha2.specs.Sha256.{sha256}
use Rattle.sqs_model.specs.Queue.{Entry, Queue, id_of, is_in_flight, numbered, same_text, taken_out, with_change}
use Rattle.sqs_model.specs.Return.{released}
use Rattle.sqs_message.specs.declared.message.Place.TheVariants as places
use Rattle.sim_clock.specs.declared.refusal.Refusal.TheVariants as refusals
use Rattle.sqs_redrive.specs.declared.settings.Scope.TheVariants as scopes
use Rattle.sqs_model.specs.Longest.{deduplication_interval, longest_delay, longest_flight, longest_timeout}

-- the deduplication id made of a body: its SHA-256 in lower-case hexadecimal
unfoldable pub body_digest : List ℕ → List ℕ
body_digest body = encode_lower (sha256 body)

-- a new message that is delayed, in milliseconds
abbrev pub new_message : Queue → ℕ → List ℕ → Option (List ℕ) → ℕ → Message
new_message q now body group delay =
    record {
      number = q.arrivals;
      origin = record { site = q.site; number = q.arrivals };
      body = body;
      group = group;
      enqueued = now;
      place = if delay == 0 then places.Visible else places.Delayed;
      release = if delay == 0 then None else Some (now + delay);
      receives = 0;
      received = 0;
      source = None;
    }

-- a queue with one more message
abbrev pub with_message : Queue → Message → Queue
with_message q m = record q { records = q.records ++ m ∷ []; arrivals = q.arrivals + 1 }

-- whether a delay of its own is over a bound in seconds
abbrev pub is_bad_delay : ℕ → Option ℕ → Bool
is_bad_delay most None = false
is_bad_delay most (Some s) = nat_lt most s

-- the delay of a message in milliseconds: its own, or else the queue's
abbrev pub delay_of : Queue → Option ℕ → ℕ
delay_of q None = q.settings.delay
delay_of q (Some s) = 1000 * s

-- a send to a standard queue
abbrev pub send_standard : Queue → ℕ → List ℕ → Option ℕ → Result Sent Refusal × Queue
send_standard q now body delay =
    if is_bad_delay longest_delay delay then (Err refusals.BadDelay, q)
    else (Ok (New (id_of q q.arrivals)), with_message q (new_message q now body None (delay_of q delay)))

-- the entry with this scope and id that lives at a moment
abbrev pub living : Queue → ℕ → Option (List ℕ) → List ℕ → Option Entry
living q now scope id =
    find (λ e. nat_lt now e.end && same_text e.scope scope && bytes_eq e.id id) q.entries

-- the scope of the deduplication ids of a group's messages
abbrev pub scope_of : Scope → List ℕ → Option (List ℕ)
scope_of scopes.Queue group = None
scope_of scopes.Group group = Some group

-- the entries that live at a moment
abbrev pub living_entries : ℕ → List Entry → List Entry
living_entries now entries = filter (λ e. nat_lt now e.end) entries

-- a queue with one more deduplication entry, for the next message, which lives for 5 minutes; those that have ended go
abbrev pub with_entry : Queue → ℕ → Option (List ℕ) → List ℕ → Queue
with_entry q now scope id =
    record q { entries = living_entries now q.entries ++ record { scope = scope; id = id; end = now + deduplication_interval; number = q.arrivals } ∷ [] }

-- a duplicate of a message makes none; any other send makes a message and an entry
abbrev pub send_unless : Queue → ℕ → List ℕ → List ℕ → Option (List ℕ) → List ℕ → Option Entry → Result Sent Refusal × Queue
send_unless q now body group scope id (Some e) = (Ok (Repeat (id_of q e.number)), q)
send_unless q now body group scope id None =
    (Ok (New (id_of q q.arrivals)), with_message (with_entry q now scope id) (new_message q now body (Some group) q.settings.delay))

-- a send to a FIFO queue with a group and a deduplication id
abbrev pub send_in : Queue → ℕ → List ℕ → List ℕ → Option (List ℕ) → List ℕ → Result Sent Refusal × Queue
send_in q now body group scope id = send_unless q now body group scope id (living q now scope id)

-- a send needs a group, then a deduplication id
abbrev pub send_with : Queue → Scope → ℕ → List ℕ → Option (List ℕ) → Option (List ℕ) → Result Sent Refusal × Queue
send_with q scope now body None id = (Err refusals.MissingGroup, q)
send_with q scope now body (Some group) None = (Err refusals.MissingDeduplication, q)
send_with q scope now body (Some group) (Some id) = send_in q now body group (scope_of scope group) id

-- the deduplication id of a send: the sender's, or else, if bodies are compared, that of the body
abbrev pub deduplication_id : Bool → List ℕ → Option (List ℕ) → Option (List ℕ)
deduplication_id content body (Some id) = Some id
deduplication_id content body None = if content then Some (body_digest body) else None

-- a send to a FIFO queue, which takes no delay of a message's own
abbrev pub send_fifo : Queue → Bool → Scope → ℕ → List ℕ → Option (List ℕ) → Option (List ℕ) → Option ℕ → Result Sent Refusal × Queue
send_fifo q content scope now body group id delay =
    if is_bad_delay 0 delay then (Err refusals.BadDelay, q)
    else send_with q scope now body group (deduplication_id content body id)

-- whether a queue may have given a receipt: it names the queue's site, and a receive of the message, counted from 1
abbrev pub may_be_given : Queue → Receipt → Bool
may_be_given q r = r.site == q.site && nat_lt 0 r.count

-- the message of a receipt is deleted
abbrev pub removed : Queue → ℕ → Receipt → Message → Result Deleted Refusal × Queue
removed q now r m = (Ok (Removed (now - m.enqueued)), taken_out q r.number)

-- a delete of a message that a standard queue has: by an older receipt the message stays
abbrev pub delete_standard_here : Queue → ℕ → Receipt → Message → Result Deleted Refusal × Queue
delete_standard_here q now r m =
    if nat_lt m.receives r.count then (Err refusals.ReceiptHandleIsInvalid, q)
    else (if nat_lt r.count m.receives then (Ok Kept, q) else removed q now r m)

-- a delete of a message that a FIFO queue has: only by the newest receipt, and while it is in flight
abbrev pub delete_fifo_here : Queue → ℕ → Receipt → Message → Result Deleted Refusal × Queue
delete_fifo_here q now r m =
    if r.count == m.receives && is_in_flight m then removed q now r m else (Err refusals.ReceiptHandleIsInvalid, q)

-- a delete of a message that is not there: gone, or never there
abbrev pub delete_gone : Queue → Receipt → Result Deleted Refusal × Queue
delete_gone q r = if nat_lt r.number q.arrivals then (Ok Gone, q) else (Err refusals.ReceiptHandleIsInvalid, q)

-- a delete at a standard queue
abbrev pub delete_standard : Queue → ℕ → Receipt → Result Deleted Refusal × Queue
delete_standard q now r =
    if may_be_given q r
    then elim (numbered r.number q.records) as (λ _. Result Deleted Refusal × Queue) [
      | None ↦ delete_gone q r
      | Some m ↦ delete_standard_here q now r m
    ]
    else (Err refusals.ReceiptHandleIsInvalid, q)

-- a delete at a FIFO queue
abbrev pub delete_fifo : Queue → ℕ → Receipt → Result Deleted Refusal × Queue
delete_fifo q now r =
    if may_be_given q r
    then elim (numbered r.number q.records) as (λ _. Result Deleted Refusal × Queue) [
      | None ↦ delete_gone q r
      | Some m ↦ delete_fifo_here q now r m
    ]
    else (Err refusals.ReceiptHandleIsInvalid, q)

-- a delete at a queue of either kind
abbrev pub delete_as : Kind → Queue → ℕ → Receipt → Result Deleted Refusal × Queue
delete_as (Standard hosts sampled) q now r = delete_standard q now r
delete_as (Fifo content_dedup scope) q now r = delete_fifo q now r

-- the answer of a delete, and the queue after it
abbrev pub delete : Queue → ℕ → Receipt → Result Deleted Refusal × Queue
delete q now r = delete_as q.settings.kind q now r

-- a message that stays in flight until a moment
abbrev pub in_flight_until : ℕ → Message → Message
in_flight_until at m = record m { place = places.InFlight; release = Some at }

-- a load before the queue
abbrev pub returned : Queue × Option Load → Result (Option Load) Refusal × Queue
returned (q, left) = (Ok left, q)

-- a change that is allowed: a timeout of 0 brings the message back at once
abbrev pub change_done : Queue → ℕ → ℕ → ℕ → Result (Option Load) Refusal × Queue
change_done q now n timeout =
    if timeout == 0 then returned (released q n) else (Ok None, with_change q n (in_flight_until (now + 1000 * timeout)))

-- a change of a message that is there: in flight, by its newest receipt, and not past 12 hours from its receive
abbrev pub change_here : Queue → ℕ → Receipt → ℕ → Message → Result (Option Load) Refusal × Queue
change_here q now r timeout m =
    if nat_lt m.receives r.count then (Err refusals.ReceiptHandleIsInvalid, q)
    else (if not (is_in_flight m) || nat_lt r.count m.receives then (Err refusals.MessageNotInflight, q)
    else (if nat_lt (m.received + longest_flight) (now + 1000 * timeout) then (Err refusals.BadTimeout, q)
    else change_done q now r.number timeout))

-- a change of a message that may be there, gone, or never there
abbrev pub change_found : Queue → ℕ → Receipt → ℕ → Option Message → Result (Option Load) Refusal × Queue
change_found q now r timeout None =
    if nat_lt r.number q.arrivals then (Err refusals.MessageNotInflight, q) else (Err refusals.ReceiptHandleIsInvalid, q)
change_found q now r timeout (Some m) = change_here q now r timeout m

-- the answer of a change of visibility, and the queue after it
abbrev pub change : Queue → ℕ → Receipt → ℕ → Result (Option Load) Refusal × Queue
change q now r timeout =
    if nat_lt longest_timeout timeout then (Err refusals.BadTimeout, q)
    else (if may_be_given q r then change_found q now r timeout (numbered r.number q.records)
    else (Err refusals.ReceiptHandleIsInvalid, q))
