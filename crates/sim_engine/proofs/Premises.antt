-- What the laws of runs in partitions stand on: a setting of fine sites, and which partition has which site.
use Rattle.std.specs.Prelude.{ℕ, ◌<◌}
use Rattle.sim_engine.specs.Engine.{Engine}
use Rattle.sim_engine.specs.Laws.{Conditions, RunLaws, SiteLaws}
use Rattle.sim_engine.specs.Members.{Each}
use Rattle.sim_engine.specs.Setting.{IsNumbered, Setting}

-- a setting whose sites are fine and numbered 0, 1, 2, .., whatever the moment to which it has come
pub record IsFineSetting {Site Row Transfer : Type 0} (engine : Engine Site Row Transfer) (conditions : Conditions Site Transfer)
    (home : ℕ → ℕ) (Fine : Site → Type 0) (Fits : Transfer → Type 0) (s : Setting Site) : Type 0 where
  pub laws : RunLaws engine conditions s.edges home Fine Fits
  pub opens : Each Fine s.opening
  pub numbered : IsNumbered engine 0 s.opening

pub record Premises {Site Row Transfer : Type 0} (engine : Engine Site Row Transfer) (conditions : Conditions Site Transfer) : Type 1 where
  pub basics : SiteLaws engine conditions
  pub setting : Setting Site
  -- the site of a sender, the sites that a run reaches, and the transfers that fit them
  pub home : ℕ → ℕ
  pub Fine : Site → Type 0
  pub Fits : Transfer → Type 0
  pub sound : IsFineSetting engine conditions home Fine Fits setting
  -- the partition of a site, of so many
  pub owner : ℕ → ℕ
  pub parts : ℕ
  pub owned : (n : ℕ) → owner n < parts
