-- Whatever is picked, a machine that has finished has what the one-list run has.
use Rattle.std.specs.List.{range_with_len}
use Rattle.std.specs.Prelude.{List, Option, flat_map, map, true, ℕ, ◌<◌, ◌≡◌}
use Rattle.sim_engine.specs.World.{Run}
use Rattle.sim_engine.specs.Bounds.{AreDistances, own_bound}
use Rattle.sim_engine.specs.declared.picks.Pick.{Pick}
use Rattle.sim_engine.specs.Machine.{Machine, flushed, is_finished, of_name, opened, played_all}
use Rattle.sim_engine.specs.Merge.{merged_all, row_cmp}
use Rattle.sim_engine.specs.Parts.{Entry}
use Rattle.sim_engine.specs.Setting.{Setting, IsRunOf}
use Rattle.sim_engine.specs.Engine.{Engine}

module _ {Site Row Transfer : Type 0} (engine : Engine Site Row Transfer) where
  -- the rows of what was made
  abbrev pub rows_of : List (ℕ × Entry engine) → List Row
  rows_of told = flat_map (λ x. x.1.rows) told

  -- the rows that a partition made
  abbrev pub rows_by : List (ℕ × Entry engine) → ℕ → List Row
  rows_by told p = rows_of (of_name p told)

  -- a machine that begins with the bounds that a rule sets
  abbrev pub begun : (List Site → ℕ → ℕ) → List Site → Machine engine
  begun rule sites = opened engine (rule sites) sites

  -- the machine of a setting after some picks
  abbrev pub machine_of : (ℕ → ℕ) → (List Site → ℕ → ℕ) → Setting Site → List Pick → Machine engine
  machine_of owner rule s picks = played_all engine owner s.horizon rule picks (begun rule s.opening)

  -- the world of a machine, and the rows of its partitions, merged
  abbrev pub whole_of : ℕ → Machine engine → Run engine
  whole_of parts m = record { sites = flushed engine m; rows = merged_all (row_cmp engine) (map (rows_by m.told) (range_with_len 0 parts)) }

  -- with a bound of each partition's own, by distances between partitions
  abbrev pub FinishedAtOwnBounds : Setting Site → Type 0
  FinishedAtOwnBounds s =
      (owner : ℕ → ℕ) (parts : ℕ) → ((n : ℕ) → owner n < parts) → (distance : ℕ → ℕ → Option ℕ) → AreDistances owner s.edges distance → (picks : List Pick)
      → is_finished engine s.horizon (machine_of owner (own_bound engine owner distance parts s.horizon) s picks) ≡ true
      → IsRunOf engine s (whole_of parts (machine_of owner (own_bound engine owner distance parts s.horizon) s picks))
