-- How each step changes its party's record, and what it reports.
use Rattle.std.specs.Prelude.{◌≡◌, ◌≢◌, ℕ, ◌+◌, ◌-◌, ◌≤◌, true, false, [], ◌∷◌, map, None, Some, replicate}
use Rattle.atomic_table.specs.Table.{Me, Step, rest}
use Rattle.sim_handoff.specs.declared.records.Slot.{Slot}
use Rattle.sim_handoff.specs.declared.records.Slot.TheVariants.{Nothing, Piece, Answer}
use Rattle.sim_handoff.specs.declared.records.PlaceRecord.{PlaceRecord}
use Rattle.sim_handoff.specs.declared.records.PartyRecord.{PartyRecord}
use Rattle.sim_handoff.specs.Place.{offered_word, done_word, running_word, blank, last_of, place_record, with_place_record}

module _ {P : Type 0} where
  -- the party's record with a change at one place
  abbrev pub at : ℕ → (PlaceRecord P → PlaceRecord P) → PartyRecord P → PartyRecord P
  at place change party = with_place_record party place (change (place_record party place))

  -- the owner has taken the slot
  abbrev pub raised : PlaceRecord P → PlaceRecord P
  raised s = record s { lifted = true }

  -- the owner has put the slot back
  abbrev pub lowered : PlaceRecord P → PlaceRecord P
  lowered s = record s { lifted = false }

  -- the owner has offered one more piece, and has to collect
  abbrev pub offered : P → PlaceRecord P → PlaceRecord P
  offered piece s = record s { offers = piece ∷ s.offers; pending = true; lifted = false }

  -- the owner has collected, and still has the slot
  abbrev pub taken : PlaceRecord P → PlaceRecord P
  taken s = record s { pending = false; lifted = true }

  -- the hand holds the piece, and still has the slot
  abbrev pub claimed : P → PlaceRecord P → PlaceRecord P
  claimed piece s = record s { held = Some piece; out = true }

  -- the hand has put the slot back, and holds the piece
  abbrev pub set_down : PlaceRecord P → PlaceRecord P
  set_down s = record s { out = false }

  -- the hand has taken the slot of a place that it claimed
  abbrev pub picked_up : PlaceRecord P → PlaceRecord P
  picked_up s = record s { out = true }

  -- the hand holds nothing here any more
  abbrev pub returned : PlaceRecord P → PlaceRecord P
  returned s = record s { held = None; out = false }

  -- the hand knows that this many first offers were claimed
  abbrev pub knowing : ℕ → PlaceRecord P → PlaceRecord P
  knowing count s = record s { known = count }

  -- the hand's record changed only in the number of first offers at the place that it knows to have been claimed, which
  -- is no less than before
  abbrev pub LearnsClaims : ℕ → PartyRecord P → PartyRecord P → Type 0
  LearnsClaims place old new = (count : ℕ) × ((place_record old place).known ≤ count) × (new ≡ at place (knowing count) old)

  -- the owner has collected, and has nothing to collect any more
  abbrev pub collected : PlaceRecord P → PlaceRecord P
  collected s = record s { pending = false; lifted = false }

  -- the hand holds the piece
  abbrev pub holding : P → PlaceRecord P → PlaceRecord P
  holding piece s = record s { held = Some piece; out = false }

  -- the owner has set the flag, or the hand has seen it set
  abbrev pub stopped : PartyRecord P → PartyRecord P
  stopped party = record party { stopped = true }

  -- the owner's record at first
  abbrev pub opening_record : ℕ → PartyRecord P
  opening_record places = record { by_place = replicate places blank; is_hand = false; hands = 0; stopped = false }

  -- the owner has made one more hand
  abbrev pub with_hand : PartyRecord P → PartyRecord P
  with_hand owner = record owner { hands = owner.hands + 1 }

  -- the record of a new hand, which has seen nothing and holds nothing
  abbrev pub new_hand : PartyRecord P → PartyRecord P
  new_hand owner = record { by_place = map (λ _. blank) owner.by_place; is_hand = true; hands = 0; stopped = false }

  -- the owner has taken a hand in
  abbrev pub without_hand : PartyRecord P → PartyRecord P → PartyRecord P
  without_hand owner hand = record owner { hands = owner.hands - 1 }

  -- what is left of the record of a hand that was taken in
  abbrev pub spent_record : PartyRecord P
  spent_record = record { by_place = []; is_hand = false; hands = 0; stopped = false }

-- a party: its record, and the slots that it has, the last one first
abbrev pub Party : Type 0 → Type 0 → Type 0
Party P D = Me (Slot P D) (PartyRecord P)

-- what a step reports: of the step, the party before, the word that it found, and the party after
abbrev pub Tells : Type 0 → Type 0 → Type 1
Tells P D = Step (Slot P D) → Party P D → ℕ → Party P D → Type 0

module _ {P D : Type 0} where
  -- the party takes the slot of its word, which has nothing in it
  abbrev pub takes_up : (PlaceRecord P → PlaceRecord P) → Tells P D
  takes_up change this before found after = after ≡ (at this.word change before.0, (this.word, Nothing) ∷ before.1)

  -- the party gives back the slot that it took last
  abbrev pub puts_down : (PlaceRecord P → PlaceRecord P) → Tells P D
  puts_down change this before found after = after ≡ (at this.word change before.0, rest before.1)

  -- the owner gives back the slot with the piece that it put there, which is its last offer now
  abbrev pub offering : Tells P D
  offering this before found after = (piece : P) → before.1 ≡ (this.word, Piece piece) ∷ rest before.1 → after ≡ (at this.word (offered piece) before.0, rest before.1)

  -- the owner takes the slot, which has an answer to its last offer
  abbrev pub Collects : (P → D → Type 0) → ℕ → Party P D → Party P D → Type 0
  Collects does place before after = (piece : P) × (done : D) × (last_of (place_record before.0 place).offers ≡ Some piece) × does piece done × (after ≡ (at place taken before.0, (place, Answer done) ∷ before.1))

  -- the owner collects at a place that it finds done, and does nothing at any other
  abbrev pub collecting : (P → D → Type 0) → Tells P D
  collecting does this before found after = (found ≡ done_word → Collects does this.word before after) × (found ≢ done_word → after ≡ before)

  -- if the hand finds a place offered, it takes the slot with the piece; if not, it learns how many first offers were
  -- claimed
  abbrev pub claiming : Tells P D
  claiming this before found after = (found ≡ offered_word → (piece : P) × (after ≡ (at this.word (claimed piece) before.0, (this.word, Piece piece) ∷ before.1)))
      × (found ≢ offered_word → (count : ℕ) × ((place_record before.0 this.word).known ≤ count) × (after ≡ (at this.word (knowing count) before.0, before.1)))

  -- the owner sets the flag
  abbrev pub stopping : Tells P D
  stopping this before found after = after ≡ (stopped before.0, before.1)

  -- the hand sees the flag set, or sees that it is not, and then has not seen it set before
  abbrev pub looking : Tells P D
  looking this before found after = (found ≢ running_word → after ≡ (stopped before.0, before.1)) × (found ≡ running_word → (after ≡ before) × (before.0.stopped ≡ false))
