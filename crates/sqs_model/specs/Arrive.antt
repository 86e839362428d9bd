-- What a transfer makes when it arrives, and the expiry of a message.
use Rattle.std.specs.Prelude.{Bool, Err, List, None, Ok, Option, Result, Some, [], false, nat_le, true, ℕ, ◌+◌, ◌-◌}
use Rattle.sim_clock.specs.declared.refusal.Refusal.{Refusal}
use Rattle.sqs_message.specs.declared.ids.MessageId.{MessageId}
use Rattle.sqs_message.specs.declared.ids.Origin.{Origin}
use Rattle.sqs_message.specs.declared.message.Message.{Message}
use Rattle.sqs_redrive.specs.declared.answers.Sent.{Sent}
use Rattle.sqs_redrive.specs.declared.answers.Sent.TheVariants.{New}
use Rattle.sqs_redrive.specs.declared.settings.Kind.{Kind}
use Rattle.sqs_redrive.specs.declared.settings.Kind.TheVariants.{Fifo, Standard}
use Rattle.sqs_redrive.specs.declared.transfers.Load.{Load}
use Rattle.sqs_message.specs.Ids.{id_text}
use Rattle.sqs_model.specs.Calls.{new_message, scope_of, send_in, send_standard, with_message}
use Rattle.sqs_model.specs.Queue.{Queue, id_of, numbered, taken_out}
use Rattle.sqs_redrive.specs.declared.transfers.Load.TheVariants as loads

-- a redriven or moved message: visible at once, with the origin that it had
abbrev pub brought : Queue → ℕ → Origin → List ℕ → Option (List ℕ) → ℕ → Option ℕ → Message
brought q now origin body group enqueued source =
    record (new_message q now body group 0) { origin = origin; enqueued = enqueued; source = source }

-- the enqueue time of a dead letter: kept on a standard queue, new on a FIFO one
abbrev pub enqueued_at : Kind → ℕ → ℕ → ℕ
enqueued_at (Standard hosts sampled) now before = before
enqueued_at (Fifo content_dedup scope) now before = now

-- whether a message's retention period is over
abbrev pub is_too_old : Queue → ℕ → Message → Bool
is_too_old q now m = nat_le q.settings.retention (now - m.enqueued)

-- a message that comes in stays, or expires within its arrival; its number is spent either way
abbrev pub settled_when : Bool → Queue → Message → (Sent × Bool) × Queue
settled_when true q m = ((New (id_of q q.arrivals), true), record q { arrivals = q.arrivals + 1 })
settled_when false q m = ((New (id_of q q.arrivals), false), with_message q m)

-- the same, by its age
abbrev pub settle : Queue → ℕ → Message → (Sent × Bool) × Queue
settle q now m = settled_when (is_too_old q now m) q m

-- the group of a forward to a FIFO queue, which always has one
abbrev pub forwarded_group : Option (List ℕ) → List ℕ
forwarded_group None = []
forwarded_group (Some g) = g

-- what a send made that was not refused
abbrev pub sent_of : Queue → Result Sent Refusal × Queue → (Sent × Bool) × Queue
sent_of before (Ok s, q) = ((s, false), q)
sent_of before (Err e, q) = ((New (id_of before before.arrivals), false), q)

-- a forward is a send with the queue's delay; to a FIFO queue in the message's group, its id text as deduplication id
abbrev pub forwarded : Kind → Queue → ℕ → MessageId → List ℕ → Option (List ℕ) → (Sent × Bool) × Queue
forwarded (Standard hosts sampled) q now id body group = sent_of q (send_standard q now body None)
forwarded (Fifo content_dedup scope) q now id body group =
    sent_of q (send_in q now body (forwarded_group group) (scope_of scope (forwarded_group group)) (id_text id))

-- what an arrival made and whether it expired at once, and the queue after it
abbrev pub arrived : Queue → ℕ → Load → (Sent × Bool) × Queue
arrived q now (loads.Redrive id group origin body enqueued) =
    settle q now (brought q now origin body group (enqueued_at q.settings.kind now enqueued) (Some id.site))
arrived q now (loads.Move id group origin body) = settle q now (brought q now origin body group now None)
arrived q now (loads.Forward id group body) = forwarded q.settings.kind q now id body group

-- the age at which message n expires, and the queue without it
abbrev pub expired_found : Queue → ℕ → ℕ → Option Message → ℕ × Queue
expired_found q now n None = (0, q)
expired_found q now n (Some m) = (now - m.enqueued, taken_out q n)

-- the expiry of message n
abbrev pub expired : Queue → ℕ → ℕ → ℕ × Queue
expired q now n = expired_found q now n (numbered n q.records)
