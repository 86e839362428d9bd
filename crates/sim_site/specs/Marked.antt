-- Actors with their wakes, and places at which polls may wait, with their ends.
use Rattle.std.specs.Prelude.{Bool, false, true, IfSome, List, None, Option, Some, [], get_or, length, map, position, set, suc, ℕ, ◌<◌, ◌==◌, ◌∷◌, ◌≡◌}
use Rattle.std.specs.List.Sorted.{IsNonDecreasingBy}
use Rattle.sim_clock.specs.declared.key.Key.{Key}
use Rattle.sim_clock.specs.Order.{least}
use Rattle.sim_index.specs.declared.mark.Mark.{Mark}
use Rattle.sim_index.specs.Marked.{AreMarked, Marked}
use Rattle.sim_index.specs.Marks.{no_mark}
use Rattle.sqs_model.specs.Actor.{Actor}
use Rattle.sqs_model.specs.Dues.{actor_dues, poll_key}
use Rattle.sqs_model.specs.Site.{Poll}
use Rattle.sqs_model.specs.Step.{ends_at}

-- what is kept of an actor: its wake
abbrev pub wake_mark : Actor → Mark
wake_mark a = record { due = least (actor_dues a); flags = 0 }

-- actors after the mark of the one at a place is brought up, if there is a place
abbrev pub brought_up : Option ℕ → Marked Actor → Marked Actor
brought_up None actors = actors
brought_up (Some place) actors = record actors { marks = set actors.marks place (get_or (map wake_mark actors.values) place no_mark) }

-- no earlier number is that at a place
abbrev pub IsFirst : List ℕ → ℕ → Type 0
IsFirst numbers place = position (λ n. n == get_or numbers place 0) numbers ≡ Some place

-- actors with the marks of their wakes, unless they are few, except that of the one called last; one is found by its
-- number if the numbers are known not to fall, and at once if it was called last
pub record AreFound (actors : Marked Actor) (is_in_order : Bool) (are_few : Bool) (told : Option ℕ) : Type 0 where
  pub order : is_in_order ≡ true → IsNonDecreasingBy (λ (a : Actor). a.number) actors.values
  pub first : IfSome told (IsFirst (map (λ (a : Actor). a.number) actors.values))
  pub marked : are_few ≡ false → AreMarked wake_mark (brought_up told actors)

-- what is kept of a place at which a poll may wait: its end
abbrev pub end_mark : Option Poll → Mark
end_mark None = no_mark
end_mark (Some p) = record { due = Some (poll_key p); flags = 1 }

-- the polls that wait at these places
abbrev pub waiting : List (Option Poll) → List Poll
waiting [] = []
waiting (None ∷ places) = waiting places
waiting (Some p ∷ places) = p ∷ waiting places

-- whether the poll of a place ends by a key
abbrev pub place_ends_at : Key → Option Poll → Bool
place_ends_at key None = false
place_ends_at key (Some p) = ends_at key p

-- places with the marks of their polls, and the number of these polls
pub record AreWaiting (places : Marked (Option Poll)) (count : ℕ) : Type 0 where
  pub marked : AreMarked end_mark places
  pub counted : count ≡ length (waiting places.values)

-- the first place at which a poll waits
pub record IsFirstAt (places : List (Option Poll)) (place : ℕ) : Type 0 where
  pub poll : Poll
  pub within : place < length places
  pub is : get_or places place None ≡ Some poll
  pub first : waiting places ≡ poll ∷ waiting (set places place None)

-- without the poll of a place one less waits
pub record LeavesOne (places : List (Option Poll)) (place : ℕ) : Type 0 where
  pub within : place < length places
  pub one : length (waiting places) ≡ suc (length (waiting (set places place None)))

-- if all actors but the one at a place are marked with their wakes, they still are
abbrev pub StayMarkedBut : ℕ → Marked Actor → Marked Actor → Type 0
StayMarkedBut place old new = AreMarked wake_mark (brought_up (Some place) old) → AreMarked wake_mark (brought_up (Some place) new)

-- actors that are as before, all marked with their wakes but for the one that is called next, unless they are few
pub record AreTurnedTo (are_few : Bool) (place : ℕ) (old new : Marked Actor) : Type 0 where
  pub values : new.values ≡ old.values
  pub marked : are_few ≡ false → AreMarked wake_mark (brought_up (Some place) new)

-- the polls that wait at marked places
abbrev pub polls_at : Marked (Option Poll) → List Poll
polls_at places = waiting places.values

-- places that are marked, with the same polls as before
pub record KeepPolls (old new : Marked (Option Poll)) : Type 0 where
  pub marked : AreMarked end_mark new
  pub polls : polls_at new ≡ polls_at old

-- the same of places of so many polls
pub record KeepWaiting (count : ℕ) (old new : Marked (Option Poll)) : Type 0 where
  pub are : AreWaiting new count
  pub same : polls_at new ≡ polls_at old

-- places that are marked, of which one is empty now
pub record IsLeft (place : ℕ) (old new : Marked (Option Poll)) : Type 0 where
  pub left : new.values ≡ set old.values place None
  pub marked : AreMarked end_mark new
