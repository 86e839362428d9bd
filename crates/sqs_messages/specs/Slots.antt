-- The slots of a shelf, and what is in them.
use Rattle.std.specs.Prelude.{[], ◌∷◌, ◌≡◌, ◌≢◌, ◌==◌, All, Bool, IsSome, find, IfSome, List, None, Option, get_or, length, ℕ, ◌<◌, map}
use Rattle.std.specs.List.{cons_option, filter_map}
use Rattle.std.specs.Option.{option_map}
use Rattle.sim_index.specs.declared.mark.Mark.{Mark}
use Rattle.sim_index.specs.Marks.{no_mark}
use Rattle.sqs_model.specs.Progress.{Ascends}
use Rattle.sqs_message.specs.declared.message.Message.{Message}
use Rattle.sqs_message.specs.declared.message.Place.{Place}
use Rattle.sqs_messages.specs.declared.slot.Slot.{Slot}
use Rattle.sqs_messages.specs.declared.slot.State.{State}

-- a message with its mark, and the index of its group if the queue goes by groups
pub record Shelved : Type 0 where
  pub message : Message
  pub mark : Mark
  pub group : ℕ

-- a message with this mark and place of its group
abbrev pub item_of : Mark → ℕ → Message → Shelved
item_of mark group m = record { message = m; mark = mark; group = group }

-- what is in a slot that has this mark
abbrev pub shown : Mark → Slot → Option Shelved
shown mark s = option_map (item_of mark s.group) s.message

-- what is in slots, each with its mark
abbrev pub shelved : List Slot → List Mark → List Shelved
shelved [] marks = []
shelved (s ∷ slots) [] = []
shelved (s ∷ slots) (mark ∷ marks) = cons_option (shown mark s) (shelved slots marks)

-- the messages in slots
abbrev pub standing : List Slot → List Message
standing slots = filter_map (λ s. s.message) slots

-- places whose numbers go up
abbrev pub AreOrdered : List Slot → Type 0
AreOrdered slots = Ascends (λ s. s.number) 0 slots

-- a message has the number of its slot, and an empty slot has no mark
pub record IsNamed (s : Slot) (mark : Mark) : Type 0 where
  pub number : IfSome s.message (λ m. m.number ≡ s.number)
  pub empty : s.message ≡ None → mark ≡ no_mark

-- a message with another state
abbrev pub restated : State → Message → Message
restated s m = record m { place = s.place; release = s.release; receives = s.receives; received = s.received }

-- a message with another state and another mark
abbrev pub remarked : State → Mark → Shelved → Shelved
remarked state mark s = record s { message = restated state s.message; mark = mark }

-- messages with their marks, in the order of their numbers, the next number, and whether there is certainly room for
-- one more message
pub record Holding : Type 0 where
  pub items : List Shelved
  pub next : ℕ
  pub ready : Bool

-- whether a message has this number
abbrev pub is_numbered : ℕ → Shelved → Bool
is_numbered n s = s.message.number == n

-- no message is in a slot with this number
abbrev pub IsOff : List Slot → ℕ → Type 0
IsOff slots n = All (λ s. s.number ≡ n → s.message ≡ None) slots

-- a message is in the first slot with this number
pub record IsOn (slots : List Slot) (n i : ℕ) : Type 0 where
  pub within : i < length slots
  pub number : (d : Slot) → (get_or slots i d).number ≡ n
  pub there : (d : Slot) → IsSome (get_or slots i d).message
  pub first : (k : ℕ) (d : Slot) → k < i → (get_or slots k d).number ≢ n

-- the number of a message with its mark
abbrev pub number_of : Shelved → ℕ
number_of s = s.message.number

-- the numbers of messages
abbrev pub numbers_of : List Message → List ℕ
numbers_of ms = map (λ m. m.number) ms

-- parts of a message with the index of its group: its number, its state, or all of it
abbrev pub number_and_group : Shelved → ℕ × ℕ
number_and_group s = (s.message.number, s.group)

abbrev pub place_and_group : Shelved → Place × ℕ
place_and_group s = (s.message.place, s.group)

abbrev pub message_and_group : Shelved → Message × ℕ
message_and_group s = (s.message, s.group)

-- a message whose mark has other flags
abbrev pub with_hosts : ℕ → Shelved → Shelved
with_hosts hosts s = record s { mark = record s.mark { flags = hosts } }

-- the message of a number, if it is there
abbrev pub message_of : List Shelved → ℕ → Option Message
message_of items n = option_map (λ s. s.message) (find (is_numbered n) items)

-- the messages of numbers, of those that are there
abbrev pub held : List Shelved → List ℕ → List Message
held items numbers = filter_map (message_of items) numbers
