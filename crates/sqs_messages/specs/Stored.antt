-- What every state of a queue keeps, of either kind.
use Rattle.std.specs.Prelude.{All, List, ℕ, ◌<◌, ◌≤◌}
use Rattle.sqs_message.specs.declared.message.Message.{Message}
use Rattle.sqs_model.specs.Answers.{most_count}
use Rattle.sqs_model.specs.Progress.{Ascends}

-- a message whose moments and count are within the limit
pub record IsCounted (m : Message) : Type 0 where
  pub enqueued : m.enqueued ≤ most_count
  pub receives : m.receives ≤ most_count
  pub received : m.received ≤ most_count

-- messages within the limits, in the order of their numbers, which were all given out
pub record IsStored (records : List Message) (arrivals : ℕ) : Type 0 where
  pub counted : All IsCounted records
  pub ordered : Ascends (λ m. m.number) 0 records
  pub given_out : All (λ m. m.number < arrivals) records
