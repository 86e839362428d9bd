use Rattle.sim_handoff.specs.Seats.{table_of, IsIdleHand}
use Rattle.test_parts.proofs.tests.handoff.relay.work.Given as goal

abbrev pub invariant-loop : goal.invariant-loop
invariant-loop g l = IsIdleHand (table_of l.handoff) l.hand

abbrev pub invariant-loop-place : goal.invariant-loop-place
invariant-loop-place g l = IsIdleHand (table_of l.handoff) l.hand
