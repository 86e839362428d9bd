use Rattle.std.proofs.Common.{◌≡◌, ℕ, ◌<◌}
use Rattle.sim_handoff.specs.Place.{IsFree}
use Rattle.sim_handoff.specs.Seats.{owner_table, owner_record}
use Rattle.test_parts.proofs.tests.handoff.relay.collect_all.Given as goal

abbrev pub invariant-loop-place : goal.invariant-loop-place
invariant-loop-place g l = (owner_table l.owner ≡ owner_table l.fn.owner) × ((q : ℕ) → q < l.place → IsFree (owner_record l.owner) q)
