-- The messages that a consumer has.
use Rattle.std.specs.Prelude.{List, None, Option, Some, [], ◌++◌, ◌∷◌, MatchOption, ◌≡◌}
use Rattle.sqs_redrive.specs.declared.answers.Got.{Got}

-- those whose timeouts will change, those that will be deleted, and those that are not served yet
pub record Holding : Type 0 where
  pub failed : List Got
  pub done : List Got
  pub held : List Got

-- messages that are not served yet
abbrev pub only_held : List Got → Holding
only_held gots = record { failed = []; done = []; held = gots }

-- the first of some messages
abbrev pub first_of : List Got → Option Got
first_of [] = None
first_of (g ∷ gs) = Some g

-- a holding of which the first message, before these others, was served
abbrev pub served_first : Holding → Got → List Got → Holding
served_first h got others = record h { done = h.done ++ got ∷ []; held = others }

-- the same if its service failed, with those of the messages that were served before it
abbrev pub failed_first : Holding → Got → List Got → Holding
failed_first h got others = record { failed = h.failed ++ (h.done ++ got ∷ []); done = []; held = others }

-- a holding of which all timeouts will change
abbrev pub all_to_change : Holding → Holding
all_to_change h = record { failed = h.failed ++ (h.done ++ h.held); done = []; held = [] }

-- a holding with one more message in front of those that are not served yet
abbrev pub with_held : Got → Holding → Holding
with_held g h = record h { held = g ∷ h.held }

-- in front of those that will be deleted
abbrev pub with_done : Got → Holding → Holding
with_done g h = record h { done = g ∷ h.done }

-- in front of those whose timeouts will change
abbrev pub with_failed : Got → Holding → Holding
with_failed g h = record h { failed = g ∷ h.failed }

-- the first of some messages of a holding is taken, which are those that a message put back comes in front of; or there
-- is none
abbrev pub TakesFirst : (Holding → List Got) → (Got → Holding → Holding) → Holding → Option Got → Holding → Type 0
TakesFirst messages put_back old result new = MatchOption result ((messages old ≡ []) × (new ≡ old)) (λ got. old ≡ put_back got new)

-- all messages that are not served yet were served: the first of them is taken, and the others will be deleted; or there
-- is none
abbrev pub ServesAll : Holding → Option Got → Holding → Type 0
ServesAll old result new = MatchOption result ((old.held ≡ []) × (new ≡ old)) (λ got. (old.held ≡ got ∷ new.done) × (new ≡ record old { done = new.done; held = [] }))

-- what holds of the first message that is not served yet and those behind it, if there is one
abbrev pub OfFirst : Holding → (Got → List Got → Type 0) → Type 0
OfFirst h P = (got : Got) (others : List Got) → h.held ≡ got ∷ others → P got others
