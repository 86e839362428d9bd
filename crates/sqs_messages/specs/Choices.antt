-- Which messages are chosen, and what was read for that.
use Rattle.std.specs.Prelude.{List, length, take, ℕ, ◌++◌, ◌≡◌, map, []}
use Rattle.sqs_message.specs.declared.message.Message.{Message}
use Rattle.sqs_messages.specs.Slots.{numbers_of, number_of, Shelved}
use Rattle.sqs_messages.specs.declared.choose.Choice.{Choice}
use Rattle.sqs_model.specs.Available.{by_group, open_from}

-- how many messages are chosen
abbrev pub chosen : Choice → ℕ
chosen c = length c.numbers.items

-- what a FIFO queue with these messages may give, group by group
abbrev pub open_by_group : List Message → List Message
open_by_group ms = by_group (open_from ms [] ms)

-- the first of some messages are chosen, at most so many
abbrev pub ChoosesFirst : ℕ → List Message → Choice → Type 0
ChoosesFirst most ms c = c.numbers.items ≡ numbers_of (take most ms)

-- the first of some messages on a shelf are chosen, at most so many
abbrev pub ChoosesOnShelf : ℕ → List Shelved → Choice → Type 0
ChoosesOnShelf most items c = c.numbers.items ≡ map number_of (take most items)

-- more messages are chosen, up to so many in all
abbrev pub AddsUpTo : ℕ → List Message → Choice → Choice → Type 0
AddsUpTo most ms old new = new.numbers.items ≡ take most (old.numbers.items ++ numbers_of ms)
