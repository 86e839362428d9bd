-- Forwards under way from actors to queues, with the first sends of their messages.
use Rattle.std.specs.Prelude.{ℕ, suc, ◌-◌, ◌==◌, nat_lt, not, ◌&&◌, ◌||◌, Bool, true, false, cond, List, [], ◌∷◌, ◌++◌, length, slice_get, Option, Some, None}
use Rattle.sim_report.specs.declared.forwards.FirstSend.{FirstSend}
use Rattle.sim_report.specs.declared.forwards.Forward.{Forward}
use Rattle.sim_report.specs.declared.forwards.How.{How}
use Rattle.sim_report.specs.declared.forwards.How.TheVariants as hows
use Rattle.sim_report.specs.Running.{changed}

-- the first send of a message of which nothing is known
abbrev pub unknown : FirstSend
unknown = record { at = 0; how = hows.Unknown }

-- how well a first send is known that is right only if forwards kept their order
abbrev pub less_sure : How → How
less_sure hows.Surely = hows.IfOrdered
less_sure how = how

abbrev pub in_order : FirstSend → FirstSend
in_order first = record { at = first.at; how = less_sure first.how }

-- whether first sends are the same
abbrev pub is_same_how : How → How → Bool
is_same_how hows.Surely hows.Surely = true
is_same_how hows.IfOrdered hows.IfOrdered = true
is_same_how hows.Unknown hows.Unknown = true
is_same_how one other = false

abbrev pub is_same : FirstSend → FirstSend → Bool
is_same one other = (one.at == other.at) && is_same_how one.how other.how

-- the forwards of an actor to a queue: those under way, the oldest first; whether two of different first sends were
-- under way at once since none was; how long the last one took; whether not all took equally long; and whether a new
-- message came while they were mixed
pub record ForwardsState : Type 0 where
  pub to : ℕ
  pub under_way : List Forward
  pub mixed : Bool
  pub took : Option ℕ
  pub uneven : Bool
  pub in_doubt : Bool

abbrev pub no_forwards : ℕ → ForwardsState
no_forwards to = record { to = to; under_way = []; mixed = false; took = None; uneven = false; in_doubt = false }

-- whether the oldest of these is of another first send; all are of one unless they are mixed
abbrev pub differs : FirstSend → List Forward → Bool
differs first [] = false
differs first (forward ∷ rest) = not (is_same forward.first first)

-- with one more, sent at this moment
abbrev pub forwarded : ℕ → FirstSend → ForwardsState → ForwardsState
forwarded at first f =
    record f {
      under_way = f.under_way ++ record { at = at; first = first } ∷ [];
      mixed = f.mixed || differs first f.under_way;
    }

-- what the oldest one is of
abbrev pub first_forwarded : Bool → List Forward → FirstSend
first_forwarded mixed [] = unknown
first_forwarded mixed (forward ∷ rest) = cond mixed (in_order forward.first) forward.first

-- whether one took another time than the one before
abbrev pub is_uneven : ℕ → Option ℕ → Bool
is_uneven took None = false
is_uneven took (Some before) = not (took == before)

-- the oldest one arrived at this moment, as a new message or again
abbrev pub arrived_of : ℕ → Bool → ForwardsState → List Forward → ForwardsState
arrived_of at new f [] = f
arrived_of at new f (forward ∷ rest) =
    record f {
      under_way = rest;
      mixed = f.mixed && not (length rest == 0);
      took = Some (at - forward.at);
      uneven = f.uneven || is_uneven (at - forward.at) f.took;
      in_doubt = f.in_doubt || (new && f.mixed);
    }

abbrev pub arrived : ℕ → Bool → ForwardsState → ForwardsState
arrived at new f = arrived_of at new f f.under_way

-- whether forwards leave open which message came
abbrev pub leaves_open : ForwardsState → Bool
leaves_open f = f.uneven && f.in_doubt

-- the place of an actor's forwards to a queue, behind all if there are none; and with a place for them
abbrev pub place_of : ℕ → List ForwardsState → ℕ
place_of to [] = 0
place_of to (f ∷ fs) = cond (f.to == to) 0 (suc (place_of to fs))

abbrev pub with_place : ℕ → List ForwardsState → List ForwardsState
with_place to fs = cond (nat_lt (place_of to fs) (length fs)) fs (fs ++ no_forwards to ∷ [])

-- those of an actor with one more to a queue, or with one that arrived there
abbrev pub sent_by : ℕ → ℕ → FirstSend → List ForwardsState → List ForwardsState
sent_by to at first fs = changed (forwarded at first) (place_of to fs) (with_place to fs)

abbrev pub arrived_by : ℕ → ℕ → Bool → List ForwardsState → List ForwardsState
arrived_by to at new fs = changed (arrived at new) (place_of to fs) fs

-- what the next of them is of that arrives there
abbrev pub next_of : Option ForwardsState → FirstSend
next_of None = unknown
next_of (Some f) = first_forwarded f.mixed f.under_way

abbrev pub next_to : ℕ → List ForwardsState → FirstSend
next_to to fs = next_of (slice_get fs (place_of to fs))
