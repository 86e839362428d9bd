use Rattle.std.proofs.Common.{◌≡◌, length, All}
use Rattle.sim_handoff.specs.Seats.{table_of, owner_table, owner_record, IsIdleHand}
use Rattle.sim_handoff.proofs.ends.take_in_all.Given as goal

abbrev pub invariant-loop-hand : goal.invariant-loop-hand
invariant-loop-hand g l =
    (owner_table l.owner ≡ owner_table l.fn.owner) × (length l.hands.items ≡ (owner_record l.owner).hands)
    × All (IsIdleHand (table_of l.handoff)) l.hands.items
    × (owner_record l.owner ≡ record (owner_record l.fn.owner) { hands = length l.hands.items })

abbrev pub decreases-loop-hand : goal.decreases-loop-hand
decreases-loop-hand g l = length l.hands.items
