-- The rule of a hand-off: one fact for each place, and one for the flag.
use Rattle.std.specs.Prelude.{◌≡◌, ◌≢◌, ℕ, ◌+◌, ◌<◌, ◌≤◌, Bool, true, false, cond, List, [], ◌∷◌, map, length, slice_index, slice_index_or, slice_set, Option, None, Some}
use mathlib.Core.Option.{Option as Maybe, none, some}
use lib.ListN.{get_elem?}
use Rattle.atomic_table.specs.Table.{State}
use Rattle.sim_handoff.specs.declared.records.Slot.{Slot}
use Rattle.sim_handoff.specs.declared.records.Slot.TheVariants.{Nothing, Piece, Answer}
use Rattle.sim_handoff.specs.declared.records.PlaceRecord.{PlaceRecord}
use Rattle.sim_handoff.specs.declared.records.PartyRecord.{PartyRecord}

-- the word of a place in which nothing is offered
abbrev pub empty_word : ℕ
empty_word = 0

-- the word of a place whose piece waits for a hand
abbrev pub offered_word : ℕ
offered_word = 1

-- the word of a place whose piece is with a hand
abbrev pub claimed_word : ℕ
claimed_word = 2

-- the word of a place whose answer waits for the owner
abbrev pub done_word : ℕ
done_word = 3

-- the word of the flag before the owner stops
abbrev pub running_word : ℕ
running_word = 0

-- the word of the flag after the owner has stopped
abbrev pub stopped_word : ℕ
stopped_word = 1

module _ {P : Type 0} where
  -- what a party knows of a place at first: nothing was offered, nothing is held
  abbrev pub blank : PlaceRecord P
  blank = record { offers = []; pending = false; lifted = false; held = None; out = false; known = 0 }

  -- the piece that was offered last
  abbrev pub last_of : List P → Option P
  last_of [] = None
  last_of (piece ∷ older) = Some piece

  -- what a party knows of a place
  abbrev pub place_record : PartyRecord P → ℕ → PlaceRecord P
  place_record party place = slice_index_or party.by_place place blank

  -- the party's record with another record of a place
  abbrev pub with_place_record : PartyRecord P → ℕ → PlaceRecord P → PartyRecord P
  with_place_record party place known = record party { by_place = slice_set party.by_place place known }

  -- the owner has nothing to collect at the place
  abbrev pub IsFree : PartyRecord P → ℕ → Type 0
  IsFree party place = (place_record party place).pending ≡ false

  -- the hand holds no piece at any place
  abbrev pub HoldsNothing : PartyRecord P → Type 0
  HoldsNothing party = (place : ℕ) → (place_record party place).held ≡ None

  -- the hand holds this piece at that place, and none at any other
  pub record HoldsOnly (place : ℕ) (piece : P) (party : PartyRecord P) : Type 0 where
    pub held : (place_record party place).held ≡ Some piece
    pub others : (other : ℕ) → other ≢ place → (place_record party other).held ≡ None

  -- what all parties know of a place, the owner first
  abbrev pub column : ℕ → List (PartyRecord P) → List (PlaceRecord P)
  column place parties = map (λ party. place_record party place) parties

  -- 1 for a hand, 0 for the owner and for a hand that was taken in
  abbrev pub counted : PartyRecord P → ℕ
  counted party = cond party.is_hand 1 0

  -- how many hands are out
  abbrev pub total : List (PartyRecord P) → ℕ
  total [] = 0
  total (party ∷ others) = counted party + total others

  -- what party `id` may know of a place with this word after `count` offers there, if party `holder` is the one that
  -- may hold a piece
  pub record Fits (word holder count id : ℕ) (s : PlaceRecord P) : Type 0 where
    -- it holds a piece only of a claimed place, and no other party does
    pub held : (piece : P) → s.held ≡ Some piece → (word ≡ claimed_word) × (id ≡ holder)
    -- likewise it has the slot, as a hand, only of a claimed place
    pub out : s.out ≡ true → (word ≡ claimed_word) × (id ≡ holder)
    -- it knows no more offers to have been claimed than there were
    pub known : s.known ≤ count
    -- and the last one is not among them while it is offered
    pub seen : word ≡ offered_word → s.known < count

module _ {P D : Type 0} (does : P → D → Type 0) where
  -- an answer to the piece that the owner offered last
  abbrev pub AnswersLast : PlaceRecord P → D → Type 0
  AnswersLast s done = (piece : P) × (last_of s.offers ≡ Some piece) × does piece done

  -- an answer to the piece that the hand holds
  abbrev pub AnswersHeld : PlaceRecord P → D → Type 0
  AnswersHeld s done = (piece : P) × (s.held ≡ Some piece) × does piece done

module _ {P D : Type 0} where
  -- the slot of a place whose value is with a party: in the table with nothing in it, or taken in the midst of that
  -- party's call
  abbrev pub vacant : Bool → Maybe (Slot P D)
  vacant true = none
  vacant false = some Nothing

  -- the party `holder` holds the piece that was offered last
  abbrev pub IsClaimed : Maybe (Slot P D) → List (PlaceRecord P) → List P → ℕ → Type 0
  IsClaimed home known offers holder = (s : PlaceRecord P) × (piece : P) × (get_elem? known holder ≡ some s) × (s.held ≡ Some piece) × (last_of offers ≡ Some piece) × (home ≡ vacant s.out)

module _ {P D : Type 0} (does : P → D → Type 0) where
  -- the slot has an answer to the piece that was offered last
  abbrev pub IsDone : Maybe (Slot P D) → List P → Type 0
  IsDone home offers = (piece : P) × (done : D) × (last_of offers ≡ Some piece) × (home ≡ some (Answer done)) × does piece done

  -- what holds of a place with this word, of its slot if that is in the table, and of what the owner knows of it
  pub record IsOwned (word : ℕ) (home : Maybe (Slot P D)) (owner : PlaceRecord P) : Type 0 where
    -- the owner is no hand
    pub idle : (owner.held ≡ None) × (owner.out ≡ false)
    -- the place is empty, offered, claimed or done
    pub small : word < 4
    -- at an empty place the owner has nothing to collect
    pub shut : word ≡ empty_word → owner.pending ≡ false
    -- at any other it has, and does not have the slot
    pub opened : word ≢ empty_word → (owner.pending ≡ true) × (owner.lifted ≡ false)
    -- the slot of an empty place has nothing in it, or is with the owner
    pub empty : word ≡ empty_word → home ≡ vacant owner.lifted
    -- the slot of an offered place has the owner's last offer
    pub offered : word ≡ offered_word → (piece : P) × (last_of owner.offers ≡ Some piece) × (home ≡ some (Piece piece))
    -- the slot of a done place has an answer to the last offer
    pub done : word ≡ done_word → IsDone home owner.offers

  -- and what holds of it, and of what all parties know of it: its last piece is with the owner, offered, with one hand,
  -- or done
  pub record Stands (word : ℕ) (home : Maybe (Slot P D)) (known : List (PlaceRecord P)) : Type 0 where
    -- what the owner knows of the place
    pub owner : PlaceRecord P
    pub owned : IsOwned word home owner
    pub open owned use *
    -- the party that holds the piece, if the place is claimed
    pub holder : ℕ
    -- the owner is the first party
    pub at_owner : get_elem? known 0 ≡ some owner
    -- the last offer at a claimed place is held
    pub claimed : word ≡ claimed_word → IsClaimed home known owner.offers holder
    -- what each party knows fits
    pub all : (id : ℕ) (s : PlaceRecord P) → get_elem? known id ≡ some s → Fits word holder (length owner.offers) id s

  -- what holds of a hand-off between any two steps
  pub record IsHandoff (places : ℕ) (state : State (Slot P D) (PartyRecord P)) : Type 0 where
    -- the owner's record
    pub head : PartyRecord P
    -- the owner is the first party
    pub at_head : get_elem? state.views 0 ≡ some head
    -- the owner is no hand
    pub no_hand : head.is_hand ≡ false
    -- a word for each place, and one for the flag
    pub words : length state.words ≡ places + 1
    -- a slot for each place
    pub homes : length state.homes ≡ places
    -- the clause of each place
    pub stands : (place : ℕ) → place < places → Stands (slice_index state.words place) (slice_index_or state.homes place none) (column place state.views)
    -- the flag is set exactly if the owner has stopped
    pub flag : slice_index state.words places ≡ cond head.stopped stopped_word running_word
    -- nobody has seen it set before
    pub saw : (id : ℕ) (party : PartyRecord P) → get_elem? state.views id ≡ some party → party.stopped ≡ true → head.stopped ≡ true
    -- the owner counts the hands that are out
    pub hands : total state.views ≡ head.hands
    -- a party that is neither the owner nor a hand knows nothing
    pub spent : (id : ℕ) (party : PartyRecord P) → get_elem? state.views id ≡ some party → id ≢ 0 → party.is_hand ≡ false → party.by_place ≡ []
