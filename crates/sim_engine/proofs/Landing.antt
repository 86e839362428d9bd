-- Handlings whose transfers are delivered at once, and bounds that are safe in a world.
use Rattle.std.specs.Prelude.{List, None, Option, Some, [], ℕ, ◌+◌, ◌≤◌}
use Rattle.sim_clock.specs.declared.key.Key.{Key}
use Rattle.sim_engine.specs.declared.edge.Edge.{Edge}
use Rattle.sim_engine.specs.World.{Stepped, delivered}
use Rattle.sim_engine.specs.Parts.{Entry, entry_of, handled_in, part_due}
use Rattle.sim_engine.specs.Engine.{Engine}
use Rattle.sim_engine.specs.Laws.{Conditions}
use Rattle.sim_engine.specs.Laws.{SiteLaws}

-- nothing, or so long before a moment at least
abbrev pub HoldsOff : ℕ → ℕ → Option Key → Type 0
HoldsOff moment latency None = Unit {0}
HoldsOff moment latency (Some k) = moment ≤ k.at + latency

module _ {Site Row Transfer : Type 0} {engine : Engine Site Row Transfer} {conditions : Conditions Site Transfer} (basics : SiteLaws engine conditions) where
  -- what is told by the handling of a due, if there is one
  abbrev pub told_at : (ℕ → ℕ) → ℕ → List Site → Option Key → Entry engine
  told_at owner p sites None = record { key = None; rows = []; sent = [] }
  told_at owner p sites (Some key) = entry_of engine key (handled_in engine owner p key sites)

  -- what a partition's next handling tells
  abbrev pub told_by : (ℕ → ℕ) → ℕ → List Site → Entry engine
  told_by owner p sites = told_at owner p sites (part_due engine owner p sites)

  -- a world after a handling whose transfers are delivered at once
  abbrev pub landed : Stepped engine → List Site
  landed t = delivered engine t.sent t.sites

  -- the same, if there is a due
  abbrev pub part_stepped_at : (ℕ → ℕ) → ℕ → List Site → Option Key → List Site
  part_stepped_at owner p sites None = sites
  part_stepped_at owner p sites (Some key) = landed (handled_in engine owner p key sites)

  -- a world after the next handling of a partition, with what it sends delivered at once
  abbrev pub part_stepped : (ℕ → ℕ) → ℕ → List Site → List Site
  part_stepped owner p sites = part_stepped_at owner p sites (part_due engine owner p sites)

  -- whether what may go over an edge comes at the bound of its end or later: what the partition at its start has due, and what it may still get
  pub record IsWithin (owner bounds : ℕ → ℕ) (sites : List Site) (e : Edge) : Type 0 where
    pub due : HoldsOff (bounds (owner e.to)) e.least (part_due engine owner (owner e.from) sites)
    pub later : bounds (owner e.to) ≤ bounds (owner e.from) + e.least
