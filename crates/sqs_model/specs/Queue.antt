-- A queue: its messages in order of arrival, and its deduplication entries.
use Rattle.std.specs.Prelude.{Bool, List, None, Option, Some, count_by, false, find, true, ℕ, ◌-◌, ◌==◌, ◌≡◌}
use Rattle.std.specs.Str.{bytes_eq}
use Rattle.sqs_message.specs.declared.ids.MessageId.{MessageId}
use Rattle.sqs_message.specs.declared.message.Message.{Message}
use Rattle.sqs_redrive.specs.declared.settings.QueueSettings.{QueueSettings}
use Rattle.sim_clock.specs.Firsts.{changed, without}
use Rattle.sqs_message.specs.declared.message.Place.TheVariants as places

-- a deduplication entry, which lives before its end; its scope is a group, or none for the whole queue
pub record Entry : Type 0 where
  pub scope : Option (List ℕ)
  pub id : List ℕ
  pub end : ℕ
  pub number : ℕ

-- a queue: its site's number, its settings, messages in order of arrival, entries, and how many messages ever came
pub record Queue : Type 0 where
  pub site : ℕ
  pub settings : QueueSettings
  pub records : List Message
  pub entries : List Entry
  pub arrivals : ℕ

-- whether a message may be received
abbrev pub is_visible : Message → Bool
is_visible m = elim m.place as (λ _. Bool) [ places.Delayed ↦ false | places.Visible ↦ true | places.InFlight ↦ false ]

-- whether a message's first delay goes on
abbrev pub is_delayed : Message → Bool
is_delayed m = elim m.place as (λ _. Bool) [ places.Delayed ↦ true | places.Visible ↦ false | places.InFlight ↦ false ]

-- whether a message is received and not yet back
abbrev pub is_in_flight : Message → Bool
is_in_flight m = elim m.place as (λ _. Bool) [ places.Delayed ↦ false | places.Visible ↦ false | places.InFlight ↦ true ]

-- how many messages are in flight
abbrev pub in_flight : Queue → ℕ
in_flight q = count_by is_in_flight q.records

-- how many more may be in flight
abbrev pub room : Queue → ℕ
room q = q.settings.in_flight_limit - in_flight q

-- whether a message has this number
abbrev pub has_number : ℕ → Message → Bool
has_number n m = m.number == n

-- the message of this number
abbrev pub numbered : ℕ → List Message → Option Message
numbered n records = find (has_number n) records

-- whether two texts that may be absent are one
abbrev pub same_text : Option (List ℕ) → Option (List ℕ) → Bool
same_text None None = true
same_text None (Some b) = false
same_text (Some a) None = false
same_text (Some a) (Some b) = bytes_eq a b

-- whether two messages are of one group
abbrev pub same_group : Message → Message → Bool
same_group a b = same_text a.group b.group

-- the id of a queue's message
abbrev pub id_of : Queue → ℕ → MessageId
id_of q n = record { site = q.site; number = n }

-- a queue with other messages
abbrev pub with_records : Queue → List Message → Queue
with_records q records = record q { records = records }

-- a queue without a message
abbrev pub taken_out : Queue → ℕ → Queue
taken_out q n = with_records q (without (has_number n) q.records)

-- a queue with a change of one message
abbrev pub with_change : Queue → ℕ → (Message → Message) → Queue
with_change q n change = with_records q (changed (has_number n) change q.records)

-- what no call changes
pub record IsFramed (old new : Queue) : Type 0 where
  pub site : new.site ≡ old.site
  pub settings : new.settings ≡ old.settings
