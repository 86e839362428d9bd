-- Sites whose rows are mapped: the same sites with other rows, which are made from those that handlings make.
use Rattle.std.specs.Prelude.{List, map, ℕ, ◌≡◌}
use Rattle.sim_clock.specs.declared.key.Key.{Key}
use Rattle.sim_engine.specs.Engine.{Engine, Handled}
use Rattle.sim_engine.specs.Laws.{Conditions}
use Rattle.sim_engine.specs.Limits.{IsOver}
use Rattle.sim_engine.specs.Setting.{IsRunOf, Setting}
use Rattle.sim_engine.specs.World.{Run}

-- what a mapper makes of a row, and what is read from the new row
pub record Mapping (Mapper Row New : Type 0) : Type 0 where
  pub made : Mapper → Row → New
  pub key : New → Key
  pub site : New → ℕ
  pub count : New → ℕ

-- a site, with the mapper of its rows
pub record MappedSite (Site Mapper : Type 0) : Type 0 where
  pub site : Site
  pub mapper : Mapper

module _ {Site Mapper : Type 0} where
  -- a site with a mapper
  abbrev pub with_mapper : Mapper → Site → MappedSite Site Mapper
  with_mapper mapper s = record { site = s; mapper = mapper }

  -- a setting whose sites have one mapper
  abbrev pub mapped_setting : Mapper → Setting Site → Setting (MappedSite Site Mapper)
  mapped_setting mapper s = record { horizon = s.horizon; opening = map (with_mapper mapper) s.opening; edges = s.edges }

  -- what the sites are like, whatever their mappers
  abbrev pub mapped_conditions : {Transfer : Type 0} → Conditions Site Transfer → Conditions (MappedSite Site Mapper) Transfer
  mapped_conditions conditions =
      record {
        Sorted = λ s. conditions.Sorted s.site;
        Sound = λ s. conditions.Sound s.site;
        Past = λ moment s. conditions.Past moment s.site;
        Timely = conditions.Timely;
      }

module _ {Site Row Transfer Mapper New : Type 0} (engine : Engine Site Row Transfer) (mapping : Mapping Mapper Row New) where
  -- a mapping that keeps what the engine reads from a row
  pub record KeepsRows : Type 0 where
    pub key : (mapper : Mapper) (r : Row) → mapping.key (mapping.made mapper r) ≡ engine.row_key r
    pub site : (mapper : Mapper) (r : Row) → mapping.site (mapping.made mapper r) ≡ engine.row_site r
    pub count : (mapper : Mapper) (r : Row) → mapping.count (mapping.made mapper r) ≡ engine.row_count r

  -- a handling with its rows mapped
  abbrev pub mapped_handled : Mapper → Handled Site Row Transfer → Handled (MappedSite Site Mapper) New Transfer
  mapped_handled mapper h = record { site = with_mapper mapper h.site; rows = map (mapping.made mapper) h.rows; sent = h.sent }

  -- the engine of sites with mappers
  abbrev pub mapped : Engine (MappedSite Site Mapper) New Transfer
  mapped =
      record {
        number = λ s. engine.number s.site;
        dues = λ s. engine.dues s.site;
        handled = λ key s. mapped_handled s.mapper (engine.handled key s.site);
        accepted = λ o s. with_mapper s.mapper (engine.accepted o s.site);
        transfer_key = engine.transfer_key;
        to = engine.to;
        row_key = mapping.key;
        row_site = mapping.site;
        Core = engine.Core;
        core = λ s. engine.core s.site;
        site_count = engine.site_count;
        row_count = mapping.count;
      }

  -- a run with its sites and rows mapped
  abbrev pub mapped_run : Mapper → Run engine → Run mapped
  mapped_run mapper r = record { sites = map (with_mapper mapper) r.sites; rows = map (mapping.made mapper) r.rows }

  -- the run of a setting whose sites have a mapper is the mapped run of the setting, with the same counts
  pub record RunsAreMapped (mapper : Mapper) (s : Setting Site) : Type 0 where
    pub there : (r : Run engine) → IsRunOf engine s r → IsRunOf mapped (mapped_setting mapper s) (mapped_run mapper r)
    pub back : (x : Run mapped) → IsRunOf mapped (mapped_setting mapper s) x → (r : Run engine) × (IsRunOf engine s r × (x ≡ mapped_run mapper r))
    pub over : IsOver mapped (mapped_setting mapper s) → IsOver engine s
