-- Words for contracts: what a hand-off, its owner, its hands and its claims show.
use Rattle.std.specs.Prelude.{◌≡◌, ℕ}
use Rattle.atomic_table.specs.Seated.{TableId}
use Rattle.sim_handoff.specs.declared.records.PartyRecord.{PartyRecord}
use Rattle.sim_handoff.specs.Place.{HoldsNothing}
use Rattle.sim_handoff.specs.declared.handoff.Handoff.{Handoff}
use Rattle.sim_handoff.specs.declared.handoff.Owner.{Owner}
use Rattle.sim_handoff.specs.declared.handoff.Hand.{Hand}
use Rattle.sim_handoff.specs.declared.handoff.Claimed.{Claimed}

-- how many places the hand-off has
abbrev pub places_of : {W P D : Type 0} → Handoff W P D → ℕ
places_of handoff = handoff.places

-- which hand-off this is
abbrev pub table_of : {W P D : Type 0} → Handoff W P D → TableId
table_of handoff = handoff.table.shared.table_id

-- which hand-off this is the owner of
abbrev pub owner_table : {W P D : Type 0} {k : _} → Owner W P D k → TableId
owner_table owner = owner.seat.table_id

-- what the owner has done
abbrev pub owner_record : {W P D : Type 0} {k : _} → Owner W P D k → PartyRecord P
owner_record owner = owner.seat.me.0

-- which hand-off this is a hand of
abbrev pub hand_table : {W P D : Type 0} {k : _} → Hand W P D k → TableId
hand_table hand = hand.seat.table_id

-- what the hand has done and seen
abbrev pub hand_record : {W P D : Type 0} {k : _} → Hand W P D k → PartyRecord P
hand_record hand = hand.seat.me.0

-- a hand of this hand-off that holds nothing
abbrev pub IsIdleHand : {W P D : Type 0} {k : _} → TableId → Hand W P D k → Type 0
IsIdleHand table hand = (hand_table hand ≡ table) × HoldsNothing (hand_record hand)

-- the place that was claimed
abbrev pub claimed_place : Claimed → ℕ
claimed_place claimed = claimed.place
