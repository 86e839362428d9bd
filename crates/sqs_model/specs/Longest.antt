-- The longest times that SQS allows.
use Rattle.std.specs.Prelude.{ℕ}

-- the longest visibility timeout, in seconds: 12 hours
abbrev pub longest_timeout : ℕ
longest_timeout = 43200

-- how long a message may be in flight from its receive on, in milliseconds: 12 hours
abbrev pub longest_flight : ℕ
longest_flight = 43200000

-- the longest delay of a message, in seconds: 15 minutes
abbrev pub longest_delay : ℕ
longest_delay = 900

-- how long a deduplication entry lives, in milliseconds: 5 minutes
abbrev pub deduplication_interval : ℕ
deduplication_interval = 300000
