-- Partitions that are lent, each run to an end, and come back.
use Rattle.std.specs.Prelude.{All, Err, List, Ok, Result, [], get_or, length, map, ℕ, ◌<◌, ◌∷◌, ◌≡◌, ◌≤◌}
use Rattle.sim_clock.specs.declared.refusal.Refusal.{Refusal}
use Rattle.sim_engine.specs.Engine.{Engine}
use Rattle.sim_engine.specs.Laws.{Conditions}
use Rattle.sim_engine.specs.World.{world_due}
use Rattle.sim_partition.specs.Sites.{AreOfPast}
use Rattle.sim_partition.specs.Steps.{RanTo, StopsRun}
use Rattle.sim_windows.specs.Stages.{IsStanding, Standing, with_parts}
use Rattle.sim_windows.specs.declared.lent.Came.{Came}

-- no partition is to run past its bound
abbrev pub AreWithin : List ℕ → List ℕ → Type 0
AreWithin ends bounds = (p : ℕ) → p < length bounds → get_or ends p 0 ≤ get_or bounds p 0

module _ {Site Row Transfer : Type 0} (engine : Engine Site Row Transfer) (conditions : Conditions Site Transfer) where
  open conditions use {Sound}

  -- a partition that came back: it has run to its bound; time moved on in its sites, and nothing there was from after
  -- what was due next
  pub record CameBack (bound : ℕ) (sites : List Site) (came : Came Site Row Transfer) : Type 0 where
    pub ran : RanTo engine bound sites came.part came.made
    pub sound : All Sound sites
    pub none_later : AreOfPast conditions sites (world_due engine sites)

  -- what may come of a partition that is run to a bound
  abbrev pub Comes : ℕ → Result (List Site) Refusal → Result (Came Site Row Transfer) Refusal → Type 0
  Comes bound (Ok sites) (Ok came) = CameBack bound sites came
  Comes bound (Ok sites) (Err refusal) = StopsRun engine bound sites refusal
  Comes bound (Err e) (Ok came) = ⊥
  Comes bound (Err e) (Err refusal) = refusal ≡ e

  -- what may come of partitions, each of which is run to its bound
  abbrev pub AllCome : List ℕ
      → List (Result (List Site) Refusal) → List (Result (Came Site Row Transfer) Refusal) → Type 0
  AllCome [] [] [] = Unit {0}
  AllCome (b ∷ bounds) (p ∷ parts) (o ∷ outcomes) = Comes b p o × AllCome bounds parts outcomes
  AllCome _ _ _ = ⊥

  -- each of some partitions has come back, run to its bound
  abbrev pub HaveCome : List ℕ → List (Result (List Site) Refusal) → List (Came Site Row Transfer) → Type 0
  HaveCome bounds parts came = AllCome bounds parts (map (λ c. Ok c) came)

  -- these are the partitions of a stage that lent them, each run to an end that is not past its bound
  pub record CanComeBack (lent : Standing Site Row Transfer) (came : List (Came Site Row Transfer)) : Type 0 where
    pub parts : List (Result (List Site) Refusal)
    pub ends : List ℕ
    pub stands : IsStanding engine conditions (with_parts parts lent)
    pub within : AreWithin ends lent.bounds
    pub have : HaveCome ends parts came

  -- what is lent goes on with the partitions that come back, each run to an end that is not past its bound
  abbrev pub ComesBack : Standing Site Row Transfer → List (Came Site Row Transfer) → (Standing Site Row Transfer → Type 0) → Type 0
  ComesBack lent came P =
      (parts : List (Result (List Site) Refusal)) (ends : List ℕ) → AreWithin ends lent.bounds → HaveCome ends parts came → P (with_parts parts lent)
