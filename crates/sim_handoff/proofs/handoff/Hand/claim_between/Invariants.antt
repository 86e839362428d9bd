use Rattle.std.proofs.Common.{◌≡◌}
use Rattle.sim_handoff.specs.Place.{HoldsNothing}
use Rattle.sim_handoff.specs.Seats.{hand_record, hand_table, table_of}
use Rattle.sim_handoff.proofs.handoff.Hand.claim_between.Given as goal

-- the hand holds nothing yet
abbrev pub invariant-loop-place : goal.invariant-loop-place
invariant-loop-place g l = (hand_table l.self ≡ table_of l.handoff) × HoldsNothing (hand_record l.self)
