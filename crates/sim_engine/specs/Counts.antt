-- The greatest count that sites, rows and a run have reached.
use Rattle.std.specs.Prelude.{List, [], map, max, ℕ, ◌∷◌}
use Rattle.sim_engine.specs.Engine.{Engine}
use Rattle.sim_engine.specs.World.{Run}

-- the greatest of some numbers, 0 without any
abbrev pub greatest : List ℕ → ℕ
greatest [] = 0
greatest (n ∷ ns) = max n (greatest ns)

module _ {Site Row Transfer : Type 0} (engine : Engine Site Row Transfer) where
  open engine use {core, site_count, row_count}

  -- that of some rows
  abbrev pub rows_count : List Row → ℕ
  rows_count rows = greatest (map row_count rows)

  -- that of some sites
  abbrev pub sites_count : List Site → ℕ
  sites_count sites = greatest (map (λ s. site_count (core s)) sites)

  -- that of a run
  abbrev pub run_count : Run engine → ℕ
  run_count r = max (sites_count r.sites) (rows_count r.rows)
