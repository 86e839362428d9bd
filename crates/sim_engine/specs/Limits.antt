-- The limit of counts, and why something stops.
use Rattle.std.specs.Prelude.{max, ℕ, ◌-◌, ◌<◌, ◌^◌}
use Rattle.sim_clock.specs.declared.refusal.Refusal.{Refusal}
use Rattle.sim_clock.specs.declared.refusal.Refusal.TheVariants as refusals
use Rattle.sim_engine.specs.Counts.{rows_count, run_count}
use Rattle.sim_engine.specs.Engine.{Engine, Handled}
use Rattle.sim_engine.specs.Setting.{Setting}
use Rattle.sim_engine.specs.World.{after}

-- no count may pass this
abbrev pub most_count : ℕ
most_count = 2 ^ 62 - 1

-- why something is not done: out of memory, or a count at its limit, if this holds
abbrev pub StopsWhere : Type 0 → Refusal → Type 0
StopsWhere AtLimit refusals.CountLimit = AtLimit
StopsWhere AtLimit refusals.Memory = Unit {0}
StopsWhere AtLimit refusal = ⊥

module _ {Site Row Transfer : Type 0} (engine : Engine Site Row Transfer) where
  open engine use {core, site_count}

  -- whether a handling takes a count past the limit
  abbrev pub PassesCount : Handled Site Row Transfer → Type 0
  PassesCount h = most_count < max (site_count (core h.site)) (rows_count engine h.rows)

  -- why a handling is not carried out: out of memory, or a count that it takes past the limit
  abbrev pub Stops : Handled Site Row Transfer → Refusal → Type 0
  Stops h = StopsWhere (PassesCount h)

  -- a setting whose one-list run takes a count past the limit
  abbrev pub IsOver : Setting Site → Type 0
  IsOver s = (n : ℕ) × most_count < run_count engine (after engine s.horizon n s.opening)
