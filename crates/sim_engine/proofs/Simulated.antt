-- Every setting whose sites are sound is simulated.
use Rattle.std.specs.Prelude.{None, Option, Some, ℕ, ◌<◌, ◌≡◌}
use Rattle.std.proofs.Common.{arith, refl}
use Rattle.std.proofs.lemmas.Bool.{le-ltb}
use Rattle.sim_clock.specs.declared.key.Key.{Key}
use Rattle.sim_clock.specs.Order.{due_before}
use Rattle.sim_engine.specs.Engine.{Engine}
use Rattle.sim_engine.specs.Laws.{Conditions, IsSoundSetting, SiteLaws}
use Rattle.sim_engine.specs.Setting.{Setting, IsRunOf}
use Rattle.sim_engine.specs.Simulated.{AgreesInParts, IsSimulated, later}
use Rattle.sim_engine.specs.World.{Run, world_due}
use Rattle.sim_engine.proofs.Finished.{a_run, finished}
use Rattle.sim_engine.proofs.Holding.{comes, holds}
use Rattle.sim_engine.proofs.Keeping.{keeps_bounds, stays_from}
use Rattle.sim_engine.proofs.Merged.{rows_ordered}
use Rattle.sim_engine.proofs.Numbered.{numbered_after}
use Rattle.sim_engine.proofs.OneList.{turns}
use Rattle.sim_engine.proofs.Premises.{IsFineSetting, Premises}
use Rattle.sim_engine.proofs.Worlds.{sound_all}

pub none_at_zero : (d : Option Key) → due_before 0 d ≡ None
none_at_zero None = refl
none_at_zero (Some k) = rw (le-ltb k.at 0 (omega arith)) refl

module _ {Site Row Transfer : Type 0} {engine : Engine Site Row Transfer} {conditions : Conditions Site Transfer} (basics : SiteLaws engine conditions) where
  module _ (home : ℕ → ℕ) (Fine : Site → Type 0) (Fits : Transfer → Type 0) where
    -- some partitions of a setting of fine sites, and one that has all its sites
    abbrev parted : (s : Setting Site) → IsFineSetting engine conditions home Fine Fits s → (owner : ℕ → ℕ) (parts : ℕ) → ((n : ℕ) → owner n < parts) → Premises engine conditions
    parted s sound owner parts o = record { basics = basics; setting = s; home = home; Fine = Fine; Fits = Fits; sound = sound; owner = owner; parts = parts; owned = o }

    abbrev alone : (s : Setting Site) → IsFineSetting engine conditions home Fine Fits s → Premises engine conditions
    alone s sound = parted s sound (λ n. 0) 1 (λ n. omega arith)

    -- it agrees with its runs in partitions
    agrees : (s : Setting Site) → IsFineSetting engine conditions home Fine Fits s → AgreesInParts engine s
    agrees s sound =
        let run : (r : Run engine) × IsRunOf engine s r = a_run (alone s sound) in
        record {
          run = run.0;
          is_run = run.1;
          ordered = rows_ordered (alone s sound);
          finished = λ owner parts o. finished (parted s sound owner parts o);
          holds = λ owner parts o. holds (parted s sound owner parts o);
          ends = λ owner parts o. comes (parted s sound owner parts o);
          kept = λ owner parts o. keeps_bounds (parted s sound owner parts o);
          stays = λ owner parts o. stays_from (parted s sound owner parts o);
        }

    -- its sites are fine after any number of handlings
    fine_later : (s : Setting Site) → IsFineSetting engine conditions home Fine Fits s → (n : ℕ) → IsFineSetting engine conditions home Fine Fits (later engine n s)
    fine_later s sound n =
        record { laws = sound.laws; opens = (turns (alone s sound) n).fine; numbered = numbered_after basics s.horizon n s.opening sound.numbered }

    is_simulated : (s : Setting Site) → IsSoundSetting engine conditions home Fine Fits s → IsSimulated engine conditions s
    is_simulated s h =
        let sound : IsFineSetting engine conditions home Fine Fits s = record { laws = h.laws; opens = h.opens; numbered = h.numbered } in
        record {
          numbered = h.numbered;
          sound = sound_all (alone s sound) s.opening h.opens;
          begun = 0;
          by = omega arith;
          past = h.past;
          none = none_at_zero (world_due engine s.opening);
          here = agrees s sound;
          on = λ n. agrees (later engine n s) (fine_later s sound n);
        }

  pub simulated : (s : Setting Site) (home : ℕ → ℕ) (Fine : Site → Type 0) (Fits : Transfer → Type 0) → IsSoundSetting engine conditions home Fine Fits s → IsSimulated engine conditions s
  simulated s home Fine Fits sound = is_simulated home Fine Fits s sound
