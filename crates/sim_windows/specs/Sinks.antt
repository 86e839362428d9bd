-- What a sink takes of a run, as far as the run comes.
use Rattle.std.specs.Prelude.{List, ℕ, ◌++◌, ◌<◌, ◌≡◌, ◌⊎◌}
use Rattle.sim_clock.specs.declared.refusal.Refusal.{Refusal}
use Rattle.sim_engine.specs.Counts.{run_count}
use Rattle.sim_engine.specs.Engine.{Engine}
use Rattle.sim_engine.specs.Limits.{IsOver, StopsWhere, most_count}
use Rattle.sim_engine.specs.Setting.{IsRunOf, Setting}
use Rattle.sim_engine.specs.Simulated.{later}
use Rattle.sim_engine.specs.World.{Run, after}

module _ {Site Row Transfer : Type 0} (engine : Engine Site Row Transfer) where
  -- rows that a setting's run begins with
  abbrev pub IsPrefixOfRun : Setting Site → List Row → Type 0
  IsPrefixOfRun s rows = (r : Run engine) → IsRunOf engine s r → (rest : List Row) × (rows ++ rest ≡ r.rows)

  -- why the run from some sites by a horizon stops: out of memory, or a count that some more handlings take past the
  -- limit
  abbrev pub StopsRun : ℕ → List Site → Refusal → Type 0
  StopsRun horizon start = StopsWhere ((n : ℕ) × (most_count < run_count engine (after engine horizon n start)))

  module _ {K : Type 0} (took : K → List Row → K → Type 0) where
    -- the run from some sites by a horizon has reached others, and a sink took its rows
    pub record HasRun (horizon : ℕ) (start : List Site) (before : K) (sites : List Site) (now : K) : Type 0 where
      pub steps : ℕ
      pub reached : (after engine horizon steps start).sites ≡ sites
      pub taken : took before (after engine horizon steps start).rows now

    -- a setting's run has come to another, and a sink took the rows that it made on the way
    pub record HasBegun (s : Setting Site) (before : K) (reached : Setting Site) (now : K) : Type 0 where
      pub steps : ℕ
      pub is : later engine steps s ≡ reached
      pub taken : took before (after engine s.horizon steps s.opening).rows now

    -- these are the sites of a setting's last world, and a sink took all rows of its run
    pub record HasTaken (s : Setting Site) (before now : K) (sites : List Site) : Type 0 where
      pub run : Run engine
      pub is : IsRunOf engine s run
      pub taken : took before run.rows now
      pub sites_are : sites ≡ run.sites

    module _ (broke : K → List Row → Refusal → K → Type 0) where
      -- how a run stops at some rows: the sink took them and the run has its reason, or the sink broke at them
      abbrev pub StopsAt : (Refusal → Type 0) → List Row → K → Refusal → K → Type 0
      StopsAt Stops rows before refusal now = (took before rows now × Stops refusal) ⊎ broke before rows refusal now

      -- the run from some sites by a horizon stops on its way
      pub record HasHalted (horizon : ℕ) (start : List Site) (before : K) (refusal : Refusal) (now : K) : Type 0 where
        pub steps : ℕ
        pub at_rows : StopsAt (StopsRun horizon start) (after engine horizon steps start).rows before refusal now

      -- a setting's run stops on its way: because memory ran out, because it takes a count past the limit, or because
      -- the sink broke
      pub record HasStopped (s : Setting Site) (before : K) (refusal : Refusal) (now : K) : Type 0 where
        pub rows : List Row
        pub prefix : IsPrefixOfRun s rows
        pub at_rows : StopsAt (StopsWhere (IsOver engine s)) rows before refusal now
