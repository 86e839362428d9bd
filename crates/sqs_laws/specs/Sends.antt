-- What actors give to what they send: a body, a delay, a group and a deduplication id; and what receives ask for.
use Rattle.std.specs.Fmt.{decimal}
use Rattle.std.specs.Prelude.{List, None, Option, Some, length, slice_get, suc, unwrap_or, zero, ℕ, ◌*◌, ◌+◌, ◌-◌, ◌/◌, ◌≡◌, ◌≤◌, ◌⊎◌}
use Rattle.sim_engine.specs.Members.{In}
use Rattle.sqs_message.specs.declared.calls.Call.{Call}
use Rattle.sqs_message.specs.declared.calls.Call.TheVariants as calls
use Rattle.sqs_message.specs.declared.calls.ScriptCall.{ScriptCall}
use Rattle.sqs_message.specs.declared.ids.Receipt.{Receipt}
use Rattle.sqs_message.specs.declared.row.Row.{Row}
use Rattle.sqs_model.specs.declared.agents.ActorSettings.{ActorSettings}
use Rattle.sqs_model.specs.declared.agents.ConsumerSettings.{ConsumerSettings}
use Rattle.sqs_model.specs.declared.agents.ProducerSettings.{ProducerSettings}
use Rattle.sqs_model.specs.declared.agents.Role.{Role}
use Rattle.sqs_model.specs.declared.agents.Role.TheVariants.{Consumer, Producer, Scaler, Script}
use Rattle.sqs_message.specs.Bodies.{filled}
use Rattle.sqs_message.specs.Ids.{receipt_text}
use Rattle.sqs_redrive.specs.declared.settings.Kind.{Kind}
use Rattle.sqs_redrive.specs.declared.settings.Kind.TheVariants.{Fifo, Standard}
use Rattle.sqs_redrive.specs.declared.settings.QueueSettings.{QueueSettings}
use Rattle.sqs_redrive.specs.declared.settings.Scope.{Scope}
use Rattle.sqs_redrive.specs.declared.settings.Scope.TheVariants as scopes
use Rattle.sqs_model.specs.Actor.{backoff_at, backoff_drawn, group_of, id_given}
use Rattle.sqs_model.specs.Calls.{deduplication_id}
use Rattle.sqs_model.specs.Draw.{Draws, drawn_time}
use Rattle.sqs_model.specs.Scenario.{Scenario, opening_draws}

-- what a send gives: a body, a delay of its own in seconds, a group and a deduplication id
pub record Given : Type 0 where
  pub body : List ℕ
  pub delay : Option ℕ
  pub group : Option (List ℕ)
  pub id : Option (List ℕ)

-- what a call gives, if it is a send
abbrev pub given_in : Call → Option Given
given_in (calls.Send body delay group id) = Some (record { body = body; delay = delay; group = group; id = id })
given_in _ = None

-- when a producer sends a message, and its draws then: after a gap, drawn behind the group of the one before it
abbrev pub after_gap : ℕ → ℕ × Draws → ℕ × Draws
after_gap at (gap, draws) = (at + gap, draws)

abbrev pub next_sending : ProducerSettings → ℕ → ℕ × Draws → ℕ × Draws
next_sending p n (at, draws) = after_gap at (drawn_time p.gap (group_of p.groups n draws).1)

-- when it sends its message n
abbrev pub sending : Draws → ProducerSettings → ℕ → ℕ × Draws
sending opening p zero = (p.start, opening)
sending opening p (suc n) = next_sending p n (sending opening p n)

-- what it gives then
abbrev pub message_given : ProducerSettings → ℕ → ℕ → Draws → Given
message_given p agent n draws =
    record {
      body = filled (decimal n) p.body;
      delay = p.delay;
      group = (group_of p.groups n draws).0;
      id = id_given p agent n;
    }

-- what an actor of a role sends at a moment gives: a script's what its call gives, a producer's what its message does
abbrev pub GivesAt : Draws → Role → ℕ → Given → Type 0
GivesAt opening (Script cs) at x = (c : ScriptCall) × In cs c × (c.at ≡ at) × (given_in c.call ≡ Some x)
GivesAt opening (Producer p) at x =
    (n : ℕ) × ((sending opening p n).0 ≡ at) × (message_given p opening.agent n (sending opening p n).1 ≡ x)
GivesAt opening (Consumer c) at x = ⊥
GivesAt opening (Scaler s) at x = ⊥

-- the milliseconds of a time in seconds, or these if none is given
abbrev pub milliseconds_or : ℕ → Option ℕ → ℕ
milliseconds_or other None = other
milliseconds_or other (Some seconds) = 1000 * seconds

-- the delay in milliseconds of what is given to a queue: its own at a standard queue, and else the queue's
abbrev pub delay_given : QueueSettings → Given → ℕ
delay_given q x =
    elim q.kind as (λ _. ℕ) [
      | Standard hosts sampled ↦ milliseconds_or q.delay x.delay
      | Fifo content scope ↦ q.delay
    ]

-- a script or a producer, which alone send
abbrev pub IsSender : Role → Type 0
IsSender (Script cs) = Unit {0}
IsSender (Producer p) = Unit {0}
IsSender (Consumer c) = ⊥
IsSender (Scaler s) = ⊥

-- the same of the actor of this number
abbrev pub GivesAs : Scenario → ℕ → ℕ → Given → Type 0
GivesAs s agent at x =
    (a : ActorSettings) × (slice_get s.actors (agent - length s.queues) ≡ Some a)
    × GivesAt (opening_draws s.seed agent) a.role at x

-- a visibility timeout that a receive of an actor asks for: that of such a call of a script, or the consumer's
abbrev pub AsksBy : (ScriptCall → Type 0) → Role → Option ℕ → Type 0
AsksBy Such (Script cs) timeout = (c : ScriptCall) × In cs c × Such c
AsksBy Such (Consumer c) timeout = timeout ≡ c.timeout
AsksBy Such (Producer p) timeout = ⊥
AsksBy Such (Scaler s) timeout = ⊥

-- a call is a receive with this timeout that may give messages at a moment: it was made by then, and waits until then
pub record MayGiveAt (at : ℕ) (timeout : Option ℕ) (c : ScriptCall) : Type 0 where
  pub most : ℕ
  pub wait : ℕ
  pub call : c.call ≡ calls.Receive most wait timeout
  pub made : c.at ≤ at
  pub waits : at ≤ c.at + 1000 * wait

-- a visibility timeout that the receive asks for by which the actor of this number gets messages at a moment
abbrev pub AsksFor : Scenario → ℕ → ℕ → Option ℕ → Type 0
AsksFor s agent at timeout =
    (a : ActorSettings) × (slice_get s.actors (agent - length s.queues) ≡ Some a)
    × AsksBy (MayGiveAt at timeout) a.role timeout

-- a consumer gives a message of a failed service the timeout that its settings have for so many receives
pub record BacksOff (c : ConsumerSettings) (text : List ℕ) (seconds : ℕ) : Type 0 where
  pub receipt : Receipt
  pub shown : text ≡ receipt_text receipt
  pub draws : Draws
  pub timeout : seconds ≡ (backoff_drawn c.jitter (backoff_at c.backoff receipt.count) draws).0

-- how many seconds a change of an actor asks for, by a text at a moment: those of the script's call, or of the
-- consumer's settings, which prolong a timeout as they have it, or as the queue has
abbrev pub AsksToChange : QueueSettings → Role → ℕ → List ℕ → ℕ → Type 0
AsksToChange q (Script cs) at text seconds =
    (c : ScriptCall) × In cs c × (c.at ≡ at) × (c.call ≡ calls.Change text seconds)
AsksToChange q (Consumer c) at text seconds =
    (seconds ≡ unwrap_or c.timeout (q.visibility / 1000)) ⊎ BacksOff c text seconds
AsksToChange q (Producer p) at text seconds = ⊥
AsksToChange q (Scaler s) at text seconds = ⊥

-- the same of the actor of this number
abbrev pub AsksToChangeAs : Scenario → QueueSettings → ℕ → ℕ → List ℕ → ℕ → Type 0
AsksToChangeAs s q agent at text seconds =
    (a : ActorSettings) → slice_get s.actors (agent - length s.queues) ≡ Some a → AsksToChange q a.role at text seconds

-- the scope of what is given, which is its group or the whole queue, and its deduplication id: its own, or of its body
abbrev pub scope_given : Scope → Option (List ℕ) → Option (List ℕ)
scope_given scopes.Queue group = None
scope_given scopes.Group group = group

abbrev pub key_given : Kind → Given → Option (List ℕ) × Option (List ℕ)
key_given (Standard hosts sampled) x = (None, None)
key_given (Fifo content scope) x = (scope_given scope x.group, deduplication_id content x.body x.id)

-- whether a message is in flight by the call of a row
abbrev pub IsByCall : Row → Option Row → Type 0
IsByCall r None = ⊥
IsByCall r (Some f) = (f.agent ≡ r.agent) × (f.key.at ≡ r.key.at)
