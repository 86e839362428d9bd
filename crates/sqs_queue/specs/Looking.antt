-- What is seen of a queue of one kind.
use Rattle.std.specs.Prelude.{[], ℕ}
use Rattle.sqs_model.specs.Queue.{Queue}
use Rattle.sqs_redrive.specs.declared.settings.QueueSettings.{QueueSettings}

-- a queue on its own, and how many messages its newest receive without an error read to choose what it gave; 0 before
-- the first
pub record Looking : Type 0 where
  pub queue : Queue
  pub looked : ℕ

-- a queue without messages, which has given so many numbers
abbrev pub without_messages : ℕ → QueueSettings → ℕ → Looking
without_messages site settings arrivals =
    record { queue = record { site = site; settings = settings; records = []; entries = []; arrivals = arrivals }; looked = 0 }
