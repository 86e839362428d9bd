-- What the marks of messages have: what is due of them, and the host on which they are.
use Rattle.std.specs.Prelude.{◌≡◌, Option, ℕ, ◌%◌, ◌^◌, Bool, List, filter, nat_le, ◌&&◌}
use Rattle.sim_clock.specs.Order.{least}
use Rattle.sim_clock.specs.declared.key.Key.{Key}
use Rattle.sqs_message.specs.declared.message.Message.{Message}
use Rattle.sqs_message.specs.declared.message.Place.{Place}
use Rattle.sqs_message.specs.declared.message.Place.TheVariants as places
use Rattle.sqs_model.specs.Dues.{message_dues}
use Rattle.sqs_messages.specs.Slots.{Shelved, is_numbered, remarked}
use Rattle.sqs_messages.specs.Stored.{IsCounted}
use Rattle.sqs_messages.specs.declared.slot.State.{State}
use Rattle.sim_clock.specs.Firsts.{changed}
use Rattle.sim_index.specs.Marks.{meets}

-- the host of a message that may be received, as a bit
abbrev pub host_mark : ℕ → ℕ → Place → ℕ
host_mark hosts number places.Delayed = 0
host_mark hosts number places.Visible = 2 ^ (number % hosts)
host_mark hosts number places.InFlight = 0

-- whether a message is marked with its host if it may be received
abbrev pub IsHosted : ℕ → Shelved → Type 0
IsHosted hosts s = s.mark.flags ≡ host_mark hosts s.message.number s.message.place

-- a message within the limits, whose mark has what is due of it
pub record IsDue (site retention : ℕ) (s : Shelved) : Type 0 where
  pub due : s.mark.due ≡ least (message_dues site retention s.message)
  pub counted : IsCounted s.message

-- what a message has but for its hosts
abbrev pub unhosted : Shelved → Message × Option Key × ℕ
unhosted s = (s.message, s.mark.due, s.group)

-- a message with another state, and what is due of it then, on no host
abbrev pub restamped : State → Option Key → Shelved → Shelved
restamped state due = remarked state (record { due = due; flags = 0 })

-- messages, of which that of a number has another state, and what is due of it then
abbrev pub with_state : ℕ → State → Option Key → List Shelved → List Shelved
with_state number state due items = changed (is_numbered number) (restamped state due) items

-- the messages whose marks have some of these hosts
abbrev pub on_hosts : ℕ → List Shelved → List Shelved
on_hosts hosts items = filter (λ s. meets hosts s.mark) items

-- whether a message is of a number from one on, and on some of these hosts
abbrev pub wanted : ℕ → ℕ → Shelved → Bool
wanted from hosts s = nat_le from s.message.number && meets hosts s.mark
