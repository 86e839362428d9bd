-- What the owner of a hand-off holds in the midst of a round, and what it collects.
use Rattle.std.specs.Prelude.{List, None, Option, Result, Some, [], slice_index, ℕ, ◌+◌, ◌∷◌, ◌≡◌, ◌≢◌}
use Rattle.sim_clock.specs.Order.{due_before}
use Rattle.sim_clock.specs.declared.refusal.Refusal.{Refusal}
use Rattle.sim_engine.specs.Engine.{Engine}
use Rattle.sim_engine.specs.Laws.{Conditions}
use Rattle.sim_handoff.specs.Place.{IsFree, last_of, place_record}
use Rattle.sim_handoff.specs.declared.records.PartyRecord.{PartyRecord}
use Rattle.sim_partition.specs.Sites.{due_in}
use Rattle.sim_windows.specs.Rounds.{Comes}
use Rattle.sim_windows.specs.declared.lent.Came.{Came}

-- nothing is to be collected at any place
abbrev pub IsAllFree : {P : Type 0} → PartyRecord P → Type 0
IsAllFree owner = (place : ℕ) → IsFree owner place

-- what an owner knows of the other places is the same before and after
abbrev pub KeepsOthers : {P : Type 0} → ℕ → PartyRecord P → PartyRecord P → Type 0
KeepsOthers place before after = (other : ℕ) → other ≢ place → place_record after other ≡ place_record before other

-- what came of a partition that has not to run, or none of one that is offered
abbrev pub Home : Type 0 → Type 0 → Type 0 → Type 0
Home Site Row Transfer = Option (Result (Came Site Row Transfer) Refusal)

module _ {P Site Row Transfer : Type 0} where
  -- a place is free if nothing is offered there
  abbrev pub IsResting : PartyRecord P → ℕ → Home Site Row Transfer → Type 0
  IsResting owner place None = Unit {0}
  IsResting owner place (Some outcome) = IsFree owner place

  -- the same, from a place on
  abbrev pub AreResting : PartyRecord P → ℕ → List (Home Site Row Transfer) → Type 0
  AreResting owner place [] = Unit {0}
  AreResting owner place (home ∷ homes) = IsResting owner place home × AreResting owner (place + 1) homes

module _
    {P Site Row Transfer : Type 0} (engine : Engine Site Row Transfer) (conditions : Conditions Site Transfer)
    (packed : P → Result (List Site) Refusal × ℕ) where
  -- if something is due before the bound, a partition is offered with its bound; if not, its outcome is here already
  abbrev pub IsSentOut : PartyRecord P → ℕ → ℕ → Result (List Site) Refusal → Home Site Row Transfer → Type 0
  IsSentOut owner place bound part None =
      (due_before bound (due_in engine part) ≢ None)
      × ((piece : P) × (last_of (place_record owner place).offers ≡ Some piece)
      × (packed piece ≡ (part, bound)))
  IsSentOut owner place bound part (Some outcome) =
      (due_before bound (due_in engine part) ≡ None) × IsFree owner place × Comes engine conditions bound part outcome

  -- the same, of the partitions from a place on
  abbrev pub AreSentOut : PartyRecord P
      → ℕ → List ℕ → List (Result (List Site) Refusal) → List (Home Site Row Transfer) → Type 0
  AreSentOut owner place bounds [] [] = Unit {0}
  AreSentOut owner place bounds [] (home ∷ homes) = ⊥
  AreSentOut owner place bounds (part ∷ parts) [] = ⊥
  AreSentOut owner place bounds (part ∷ parts) (home ∷ homes) =
      IsSentOut owner place (slice_index bounds place) part home × AreSentOut owner (place + 1) bounds parts homes

  -- the outcome of the piece that was offered last, or the outcome that is here already
  abbrev pub IsCollected : PartyRecord P
      → ℕ → Home Site Row Transfer → Result (Came Site Row Transfer) Refusal → Type 0
  IsCollected owner place None outcome =
      (piece : P) × (last_of (place_record owner place).offers ≡ Some piece)
      × Comes engine conditions (packed piece).1 (packed piece).0 outcome
  IsCollected owner place (Some home) outcome = outcome ≡ home

  -- the same, from a place on
  abbrev pub AreCollected : PartyRecord P
      → ℕ → List (Home Site Row Transfer) → List (Result (Came Site Row Transfer) Refusal) → Type 0
  AreCollected owner place [] [] = Unit {0}
  AreCollected owner place [] (outcome ∷ came) = ⊥
  AreCollected owner place (home ∷ homes) [] = ⊥
  AreCollected owner place (home ∷ homes) (outcome ∷ came) =
      IsCollected owner place home outcome × AreCollected owner (place + 1) homes came
