-- A sink, with rows that wait until it takes them.
use Rattle.std.specs.Prelude.{List, Result, ℕ, ◌++◌, ◌≡◌, ◌≤◌}
use Rattle.sim_clock.specs.declared.refusal.Refusal.{Refusal}
use Rattle.sim_engine.specs.Engine.{Engine}
use Rattle.sim_engine.specs.declared.effects.Effects.{Effects}
use Rattle.sim_windows.specs.Sinks.{HasHalted, HasRun}
use Rattle.sim_windows.specs.Worlds.{sites_in}

module _ {K Row : Type 0} where
  -- a sink took the first of some rows, and the others are left
  abbrev pub HandsFirst : (K → List Row → K → Type 0) → K → List Row → K → List Row → Type 0
  HandsFirst took before rows now left = (first : List Row) × ((rows ≡ first ++ left) × took before first now)

  -- it broke among the first of them
  abbrev pub BreaksAmong : (K → List Row → Refusal → K → Type 0) → K → List Row → Refusal → K → Type 0
  BreaksAmong broke before rows refusal now = (first : List Row) × ((left : List Row) × ((rows ≡ first ++ left) × broke before first refusal now))

-- a sink and the rows that wait
pub record Gathered (K Row : Type 0) : Type 0 where
  pub sink : K
  pub waiting : List Row

module _ {K Row : Type 0} where
  abbrev pub gathered : K → List Row → Gathered K Row
  gathered k rows = record { sink = k; waiting = rows }

  -- both together took some rows: the sink took some that waited, and the others wait
  abbrev pub Gathers : (K → List Row → K → Type 0) → Gathered K Row → List Row → Gathered K Row → Type 0
  Gathers took before rows now = HandsFirst took before.sink (before.waiting ++ rows) now.sink now.waiting

  -- the sink broke at some that waited
  abbrev pub Breaks : (K → List Row → Refusal → K → Type 0) → Gathered K Row → List Row → Refusal → Gathered K Row → Type 0
  Breaks broke before rows refusal now = BreaksAmong broke before.sink (before.waiting ++ rows) refusal now.sink

module _ {Site Row Transfer : Type 0} (engine : Engine Site Row Transfer) {K : Type 0} (took : K → List Row → K → Type 0) where
  -- the run from some sites by a horizon has reached others; its rows went to a sink or wait
  abbrev pub HasGathered : ℕ → List Site → Gathered K Row → List Site → Gathered K Row → Type 0
  HasGathered = HasRun engine (Gathers took)

  -- it stops on its way
  abbrev pub HaltsGathering : (K → List Row → Refusal → K → Type 0) → ℕ → List Site → Gathered K Row → Refusal → K → Type 0
  HaltsGathering broke horizon start before refusal now =
      (left : List Row) × HasHalted engine (Gathers took) (Breaks broke) horizon start before refusal (gathered now left)

  -- the same of a partition, while it lives, with what it made
  abbrev pub GathersTo : ℕ → Result (List Site) Refusal → K → Effects Row Transfer → Result (List Site) Refusal → K → Effects Row Transfer → Type 0
  GathersTo horizon sites sink made after now made_now =
      HasGathered horizon (sites_in sites) (gathered sink made.rows.items) (sites_in after) (gathered now made_now.rows.items)

  -- by every horizon from a moment on
  abbrev pub GathersFrom : ℕ → Result (List Site) Refusal → K → Effects Row Transfer → Result (List Site) Refusal → K → Effects Row Transfer → Type 0
  GathersFrom moment sites sink made after now made_now = (horizon : ℕ) → moment ≤ horizon → GathersTo horizon sites sink made after now made_now

  -- it stops on its way by a horizon, or by every one from a moment on
  abbrev pub HaltsTo : (K → List Row → Refusal → K → Type 0) → ℕ → Result (List Site) Refusal → K → Effects Row Transfer → Refusal → K → Type 0
  HaltsTo broke horizon sites sink made refusal now = HaltsGathering broke horizon (sites_in sites) (gathered sink made.rows.items) refusal now

  abbrev pub HaltsFrom : (K → List Row → Refusal → K → Type 0) → ℕ → Result (List Site) Refusal → K → Effects Row Transfer → Refusal → K → Type 0
  HaltsFrom broke moment sites sink made refusal now = (horizon : ℕ) → moment ≤ horizon → HaltsTo broke horizon sites sink made refusal now
