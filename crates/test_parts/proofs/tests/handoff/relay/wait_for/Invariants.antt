use Rattle.std.proofs.Common.{◌≡◌}
use Rattle.sim_handoff.specs.Seats.{owner_table, owner_record}
use Rattle.test_parts.proofs.tests.handoff.relay.wait_for.Given as goal

abbrev pub invariant-loop : goal.invariant-loop
invariant-loop g l = (owner_table l.owner ≡ owner_table l.fn.owner) × (owner_record l.owner ≡ owner_record l.fn.owner)
