-- A round: each of some partitions is run to its bound.
use Rattle.std.specs.Prelude.{Err, List, None, Ok, Option, Result, Some, [], ℕ, ◌∷◌, ◌⊎◌, ◌≡◌}
use Rattle.sim_clock.specs.declared.refusal.Refusal.{Refusal}
use Rattle.sim_clock.specs.declared.refusal.Refusal.TheVariants as refusals
use Rattle.sim_engine.specs.Engine.{Engine}
use Rattle.sim_engine.specs.Laws.{Conditions}
use Rattle.sim_windows.specs.Rounds.{AllCome}
use Rattle.sim_windows.specs.declared.lent.Came.{Came}

-- the graver of two errors: out of memory if the second is, otherwise the first
abbrev pub graver : Refusal → Refusal → Refusal
graver first refusals.Memory = refusals.Memory
graver first second = first

-- the same if the first may be none
abbrev pub gravest_of : Option Refusal → Refusal → Refusal
gravest_of None second = second
gravest_of (Some first) second = graver first second

module _ {C : Type 0} where
  -- the gravest error of some outcomes, given that of those before them
  abbrev pub gravest_from : Option Refusal → List (Result C Refusal) → Option Refusal
  gravest_from before [] = before
  gravest_from before (Ok came ∷ rest) = gravest_from before rest
  gravest_from before (Err refusal ∷ rest) = gravest_from (Some (gravest_of before refusal)) rest

  -- the gravest error of some outcomes: out of memory if one is, otherwise the first
  abbrev pub gravest : List (Result C Refusal) → Option Refusal
  gravest outcomes = gravest_from None outcomes

module _ {Site Row Transfer : Type 0} (engine : Engine Site Row Transfer) (conditions : Conditions Site Transfer) where
  -- the gravest error of the outcomes of a round, if one of its partitions returns an error
  pub record IsRefused (bounds : List ℕ) (parts : List (Result (List Site) Refusal)) (refusal : Refusal) : Type 0 where
    pub outcomes : List (Result (Came Site Row Transfer) Refusal)
    pub come : AllCome engine conditions bounds parts outcomes
    pub graver : gravest outcomes ≡ Some refusal

  -- the error of a round: out of memory before it, or the gravest of its outcomes
  abbrev pub IsRefusedRound : List ℕ → List (Result (List Site) Refusal) → Refusal → Type 0
  IsRefusedRound bounds parts refusal = (refusal ≡ refusals.Memory) ⊎ IsRefused bounds parts refusal
