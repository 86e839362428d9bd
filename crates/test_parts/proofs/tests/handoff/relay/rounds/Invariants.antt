use Rattle.std.proofs.Common.{◌≡◌, ℕ, ◌<◌}
use Rattle.sim_handoff.specs.Place.{IsFree}
use Rattle.sim_handoff.specs.Seats.{owner_table, owner_record}
use Rattle.test_parts.proofs.tests.handoff.relay.rounds.Given as goal

abbrev pub invariant-loop-round : goal.invariant-loop-round
invariant-loop-round g l = (owner_table l.owner ≡ owner_table l.fn.owner) × ((q : ℕ) → q < 4 → IsFree (owner_record l.owner) q)
