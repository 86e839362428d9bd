-- The parts of an engine: sites, the rows that they make, the transfers that they send, and its functions.
use Rattle.std.specs.Prelude.{List, ℕ}
use Rattle.sim_clock.specs.declared.key.Key.{Key}

-- a site after a handling, the rows made, and what was sent
pub record Handled (Site Row Transfer : Type 0) : Type 0 where
  pub site : Site
  pub rows : List Row
  pub sent : List Transfer

-- sites, rows and transfers
pub record Engine (Site Row Transfer : Type 0) : Type 1 where
  -- the number of a site
  pub number : Site → ℕ
  -- what is due at a site
  pub dues : Site → List Key
  -- the handling of a due entry at its site
  pub handled : Key → Site → Handled Site Row Transfer
  -- a site with one more transfer on its way to it
  pub accepted : Transfer → Site → Site
  -- the key of a transfer's arrival, and the number of the site that it is for
  pub transfer_key : Transfer → Key
  pub to : Transfer → ℕ
  -- the key of the handling that made a row, and the number of the site at which it was
  pub row_key : Row → Key
  pub row_site : Row → ℕ
  -- a site but for what is on its way to it
  pub Core : Type 0
  pub core : Site → Core
  -- the greatest count of a site, and that of a row
  pub site_count : Core → ℕ
  pub row_count : Row → ℕ
