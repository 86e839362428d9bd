-- Sites whose rows are mapped keep the laws of every site.
use Rattle.std.proofs.Common.{ap}
use Rattle.sim_clock.specs.declared.key.Key.{Key}
use Rattle.sim_engine.specs.Engine.{Engine}
use Rattle.sim_engine.specs.Laws.{Conditions, MovesOn, SiteLaws}
use Rattle.sim_engine.specs.Mapping.{MappedSite, Mapping, mapped, mapped_conditions, mapped_handled, with_mapper}

module _ {Site Row Transfer Mapper New : Type 0} {engine : Engine Site Row Transfer} {conditions : Conditions Site Transfer} (mapping : Mapping Mapper Row New) where
  moves_on : (key : Key) (s : MappedSite Site Mapper) → MovesOn engine conditions key s.site → MovesOn (mapped engine mapping) (mapped_conditions conditions) key s
  moves_on key s m = record { sound = m.sound; before = m.before; falls = m.falls; sent_later = m.sent_later }

  pub mapped_laws : SiteLaws engine conditions → SiteLaws (mapped engine mapping) (mapped_conditions conditions)
  mapped_laws laws =
      record {
        number_handled = λ key s. laws.number_handled key s.site;
        number_accepted = λ o s. laws.number_accepted o s.site;
        sorted_handled = λ key s. laws.sorted_handled key s.site;
        sorted_accepted = λ o s. laws.sorted_accepted o s.site;
        swapped = λ o p s n. ap (with_mapper s.mapper) (laws.swapped o p s.site n);
        handled_apart = λ key o s n w. ap (mapped_handled engine mapping s.mapper) (laws.handled_apart key o s.site n w);
        due_accepted = λ o s. laws.due_accepted o s.site;
        in_accepted = λ o s. laws.in_accepted o s.site;
        count_accepted = λ e o s. laws.count_accepted e o s.site;
        kept_core = λ o s. laws.kept_core o s.site;
        moving = λ key s h i. moves_on key s (laws.moving key s.site h i);
        sound_accepted = λ o s. laws.sound_accepted o s.site;
        past_later = λ a b s. laws.past_later a b s.site;
        past_handled = λ key s. laws.past_handled key s.site;
        sent_timely = λ key s. laws.sent_timely key s.site;
        past_accepted = λ now o s. laws.past_accepted now o s.site;
      }
