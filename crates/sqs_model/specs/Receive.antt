-- The messages that a receive gives, and the queue after it.
use Rattle.std.specs.Prelude.{Bool, Err, List, None, Ok, Option, Result, Some, [], false, if◌then◌else◌, max, min, nat_le, nat_lt, take, ℕ, ◌&&◌, ◌*◌, ◌+◌, ◌==◌, ◌∷◌}
use Rattle.sim_clock.specs.declared.refusal.Refusal.{Refusal}
use Rattle.sqs_message.specs.declared.message.Message.{Message}
use Rattle.sqs_redrive.specs.declared.answers.Got.{Got}
use Rattle.sqs_redrive.specs.declared.transfers.Load.{Load}
use Rattle.sqs_model.specs.Available.{available}
use Rattle.sqs_model.specs.Queue.{Queue, id_of, in_flight, room, with_change}
use Rattle.sqs_model.specs.Return.{released}
use Rattle.sqs_message.specs.declared.message.Place.TheVariants as places
use Rattle.sim_clock.specs.declared.refusal.Refusal.TheVariants as refusals
use Rattle.sqs_model.specs.Longest.{longest_timeout}

-- a message that is received at a moment, with a timeout in milliseconds
abbrev pub received : ℕ → ℕ → Message → Message
received now timeout m =
    record m { place = places.InFlight; release = Some (now + timeout); receives = m.receives + 1; received = now }

-- what a receive returns for a message
abbrev pub got_of : Queue → Message → Option Load → Got
got_of q m left =
    record {
      id = id_of q m.number;
      receipt = record { site = q.site; number = m.number; count = m.receives + 1 };
      origin = m.origin;
      group = m.group;
      body = m.body;
      left = left;
    }

-- a queue that gives one message; with a timeout of 0 the message comes back at once
abbrev pub given_one : Queue → ℕ → ℕ → Message → Queue × Option Load
given_one q now timeout m =
    let taken = with_change q m.number (received now timeout) in
    if timeout == 0 then released taken m.number else (taken, None)

-- one message and then the others
abbrev pub got_first : Got → Queue × List Got → Queue × List Got
got_first g (q, gots) = (q, g ∷ gots)

-- a message that was given, and those that are given after it
abbrev pub give_after : (Queue → Queue × List Got) → Message → Queue × Option Load → Queue × List Got
give_after others m (q, left) = got_first (got_of q m left) (others q)

-- the queue after it gives these messages, one after another, and what it returns for each
abbrev pub give : ℕ → ℕ → List Message → Queue → Queue × List Got
give now timeout [] q = (q, [])
give now timeout (m ∷ ms) q = give_after (give now timeout ms) m (given_one q now timeout m)

-- a receive's visibility timeout in milliseconds: its own, or else the queue's
abbrev pub timeout_of : Queue → Option ℕ → ℕ
timeout_of q None = q.settings.visibility
timeout_of q (Some s) = 1000 * s

-- whether a timeout in seconds is over 12 hours
abbrev pub is_bad_timeout : Option ℕ → Bool
is_bad_timeout None = false
is_bad_timeout (Some s) = nat_lt longest_timeout s

-- the messages that a receive gives, given its greatest number of messages and the hosts that it sees
abbrev pub to_give : Queue → ℕ → ℕ → List Message
to_give q max set = take (min max (room q)) (available q set)

-- the queue after such a receive, and what it returns for each message
abbrev pub give_most : Queue → ℕ → ℕ → Option ℕ → ℕ → Queue × List Got
give_most q now max timeout set = give now (timeout_of q timeout) (to_give q max set) q

-- an answer before the queue
abbrev pub answered : Queue × List Got → Result (List Got) Refusal × Queue
answered (q, gots) = (Ok gots, q)

-- the answer of a receive, and the queue after it: a short poll is refused if the in-flight limit is reached
abbrev pub receive : Queue → ℕ → ℕ → Option ℕ → ℕ → Bool → Result (List Got) Refusal × Queue
receive q now max timeout set short =
    if is_bad_timeout timeout then (Err refusals.BadTimeout, q)
    else (if short && nat_le q.settings.in_flight_limit (in_flight q) then (Err refusals.OverLimit, q)
    else answered (give_most q now max timeout set))
