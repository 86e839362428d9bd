-- How many messages a receive gives.
use Rattle.std.specs.Prelude.{ℕ}

-- the greatest in-flight limit of a queue; what a receive gives is in flight, so it gives no more
abbrev pub most_received : ℕ
most_received = 120000
