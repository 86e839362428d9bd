-- The number of messages in each state.
use Rattle.std.specs.Prelude.{List, count_by, ℕ, ◌+◌}
use Rattle.sqs_message.specs.declared.message.Message.{Message}
use Rattle.sqs_message.specs.declared.message.Place.{Place}
use Rattle.sqs_message.specs.declared.message.Place.TheVariants as places
use Rattle.sqs_model.specs.Queue.{is_delayed, is_in_flight, is_visible}
use Rattle.sqs_messages.specs.declared.counts.Counts.{Counts}

-- the number of messages in a state
abbrev pub count_at : Place → Counts → ℕ
count_at places.Delayed c = c.delayed
count_at places.Visible c = c.visible
count_at places.InFlight c = c.in_flight

-- counts with one more message at a place
abbrev pub with_one : Place → Counts → Counts
with_one places.Delayed c = record c { delayed = c.delayed + 1 }
with_one places.Visible c = record c { visible = c.visible + 1 }
with_one places.InFlight c = record c { in_flight = c.in_flight + 1 }

-- the counts of messages
abbrev pub counts_of : List Message → Counts
counts_of ms = record { visible = count_by is_visible ms; in_flight = count_by is_in_flight ms; delayed = count_by is_delayed ms }
