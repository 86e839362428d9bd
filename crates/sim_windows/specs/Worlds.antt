-- The sites of a partition that is a whole world.
use Rattle.std.specs.Prelude.{Err, List, None, Ok, Option, Result, Some, [], ℕ, ◌+◌}
use Rattle.sim_clock.specs.declared.key.Key.{Key}
use Rattle.sim_clock.specs.declared.refusal.Refusal.{Refusal}
use Rattle.sim_engine.specs.Engine.{Engine}
use Rattle.sim_engine.specs.World.{handled_among, run_on}

-- the sites of a partition; none if it is spent
abbrev pub sites_in : {Site : Type 0} → Result (List Site) Refusal → List Site
sites_in (Ok sites) = sites
sites_in (Err e) = []

-- the moment of the next entry due; past the horizon if there is none
abbrev pub due_at : ℕ → Option Key → ℕ
due_at horizon None = horizon + 1
due_at horizon (Some k) = k.at

module _ {Site Row Transfer : Type 0} (engine : Engine Site Row Transfer) where
  -- sites after the handling of a due, with what it sent delivered
  abbrev pub sites_after : Key → List Site → List Site
  sites_after key sites = (run_on engine [] (handled_among engine key sites)).sites
