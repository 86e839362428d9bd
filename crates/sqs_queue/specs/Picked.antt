-- The messages with some numbers, and those that a step of a move task takes out.
use Rattle.std.specs.List.{filter_map}
use Rattle.std.specs.Prelude.{Bool, List, Option, take, ℕ}
use Rattle.sqs_message.specs.declared.message.Message.{Message}
use Rattle.sqs_model.specs.Available.{all_available}
use Rattle.sqs_model.specs.Queue.{Queue, numbered}
use Rattle.sqs_model.specs.Task.{Taken, take_each}
use Rattle.sqs_redrive.specs.declared.transfers.Load.{Load}
use Rattle.sqs_redrive.specs.declared.transfers.Load.TheVariants as loads

-- the messages of some numbers, of those that are there
abbrev pub messages_of : List Message → List ℕ → List Message
messages_of records numbers = filter_map (λ n. numbered n records) numbers

-- a queue's messages with some numbers
abbrev pub picked : Queue → List ℕ → List Message
picked q numbers = messages_of q.records numbers

-- the first of the messages that a queue may give, as a step of a move task takes them out
abbrev pub take_first : Queue → ℕ → Option ℕ → Taken
take_first q most to = take_each q to (take most (all_available q))

-- what was taken out of a queue, and whether a message had nowhere to go
abbrev pub taken : Queue → List (ℕ × Load) → Bool → Taken
taken q loads stuck = record { queue = q; loads = loads; stuck = stuck }

-- the load of a message that a queue gives to a move task
abbrev pub move_load : ℕ → Message → Load
move_load site m = loads.Move (record { site = site; number = m.number }) m.group m.origin m.body

-- the load of a message that goes to the dead-letter queue
abbrev pub redrive_load : ℕ → Message → Load
redrive_load site m = loads.Redrive (record { site = site; number = m.number }) m.group m.origin m.body m.enqueued
