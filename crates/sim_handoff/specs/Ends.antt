-- What is left at a place when a hand-off is closed.
use Rattle.std.specs.Prelude.{◌≡◌, ◌≢◌, ℕ, true, false, Some}
use Rattle.sim_handoff.specs.declared.records.Slot.{Slot}
use Rattle.sim_handoff.specs.declared.records.Slot.TheVariants.{Piece, Answer}
use Rattle.sim_handoff.specs.declared.records.PlaceRecord.{PlaceRecord}
use Rattle.sim_handoff.specs.declared.ends.Left.{Left}
use Rattle.sim_handoff.specs.declared.ends.Left.TheVariants.{Empty, Offered, Done}
use Rattle.sim_handoff.specs.Place.{offered_word, done_word, last_of, AnswersLast}

module _ {P D : Type 0} where
  -- what a place's word and its slot say of what is left there
  pub record Says (word : ℕ) (slot : Slot P D) (left : Left P D) : Type 0 where
    pub empty : word ≢ offered_word → word ≢ done_word → left ≡ Empty
    pub offered : (piece : P) → word ≡ offered_word → slot ≡ Piece piece → left ≡ Offered piece
    pub done : (answer : D) → word ≡ done_word → slot ≡ Answer answer → left ≡ Done answer

  -- nothing if the owner has nothing to collect; otherwise its last offer or an answer to it
  abbrev pub IsLeft : (P → D → Type 0) → PlaceRecord P → Left P D → Type 0
  IsLeft does owner Empty = owner.pending ≡ false
  IsLeft does owner (Offered piece) = (owner.pending ≡ true) × (last_of owner.offers ≡ Some piece)
  IsLeft does owner (Done answer) = (owner.pending ≡ true) × AnswersLast does owner answer
