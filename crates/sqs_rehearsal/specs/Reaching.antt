-- Where two scenarios are the same, and how marks of queues are taken away along ways.
use Rattle.std.specs.Prelude.{Bool, List, [], false, length, true, ℕ, ◌+◌, ◌<◌, ◌∷◌, ◌≡◌}
use Rattle.std.specs.Bool.{Decides}
use Rattle.std.specs.Borrow.{Bor}
use Rattle.std.specs.List.{slice_set}
use Rattle.sim_engine.specs.declared.edge.Edge.{Edge}
use Rattle.sqs_model.specs.Scenario.{Scenario}
use Rattle.sqs_laws.specs.Reach.{IsSameAt, NoneLeadsTo, is_marked}

-- all of some queues are marked
abbrev pub AreMarked : (ℕ → Bool) → List Bool → Type 0
AreMarked among marks = (n : ℕ) → among n ≡ true → is_marked marks n ≡ true

-- marks that are left keep all that are needed: those of queues to which none of these ways leads
abbrev pub KeepsNeeded : List Edge → List Bool → List Bool → Type 0
KeepsNeeded ways before after =
    (among : ℕ → Bool) → NoneLeadsTo among ways → AreMarked among before → AreMarked among after

-- a way leads from a queue without a mark to one that has lost its own now
pub record IsFollowed (way : Edge) (before after : List Bool) : Type 0 where
  pub from : is_marked before way.from ≡ false
  pub to : is_marked before way.to ≡ true
  pub taken : after ≡ slice_set before way.to false

-- how many are marked
abbrev pub marked_count : List Bool → ℕ
marked_count [] = 0
marked_count (true ∷ marks) = 1 + marked_count marks
marked_count (false ∷ marks) = marked_count marks

-- two scenarios have the same horizon, seed and interval of samples
pub record AreAlike (s t : Scenario) : Type 0 where
  pub horizon : s.horizon ≡ t.horizon
  pub seed : s.seed ≡ t.seed
  pub sample : s.sample ≡ t.sample

-- a queue at which nothing differs between two such scenarios
abbrev pub MayStay : Scenario → Scenario → ℕ → Type 0
MayStay s t n = AreAlike s t × IsSameAt s t n

-- each queue is marked just if nothing differs there
abbrev pub AreMarkedSame : Scenario → Scenario → List Bool → Type 0
AreMarkedSame s t marks = (n : ℕ) → n < length marks → Decides (is_marked marks n) (MayStay s t n)

-- a numbered value that is borrowed, with its number
abbrev pub with_number : {A : Type 0} → ℕ × Bor A → ℕ × A
with_number x = (x.0, x.1.now)
