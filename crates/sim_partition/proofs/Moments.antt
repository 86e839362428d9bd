-- What is due at some sites, moment by moment.
use Rattle.std.specs.Prelude.{All, List, None, Option, Some, ℕ, ◌+◌, ◌<◌, ◌≡◌, ◌≤◌}
use Rattle.std.proofs.Common.{ap, arith, inl, inr, refl, ◌∙◌}
use Rattle.std.proofs.lemmas.Bool.{cases_lt}
use Rattle.std.proofs.lemmas.List.Elements.{All-weaker}
use Rattle.sim_clock.specs.declared.key.Key.{Key}
use Rattle.sim_engine.specs.World.{world_due, handled_among}
use Rattle.sim_engine.proofs.Ends.{least_counts}
use Rattle.sim_engine.proofs.Counts.{tick, tick_now, tick_past}
use Rattle.sim_engine.proofs.WorldMoves.{FallsAmong, among_falls, tick_key, world_count, world_in, world_none}
use Rattle.sim_partition.specs.Sites.{AreOfPast, IsFrom}
use Rattle.sim_engine.specs.Engine.{Engine}
use Rattle.sim_engine.specs.Laws.{Conditions, SiteLaws}

from_sooner : (a b : ℕ) (o : Option Key) → a ≤ b → IsFrom b o → IsFrom a o
from_sooner a b None l h = tt
from_sooner a b (Some k) l h = omega (arith, h)

module _ {Site Row Transfer : Type 0} {engine : Engine Site Row Transfer} {conditions : Conditions Site Transfer} (basics : SiteLaws engine conditions) where
  open conditions use {Sound, Past}
  open basics use {past_later}

  falls : (key : Key) (e : ℕ) (w : List Site) → e ≤ key.at → All Sound w → world_due engine w ≡ Some key → FallsAmong basics key e w (handled_among engine key w)
  falls key e w l h d = among_falls basics key e w l h (world_in basics key w d)

  -- where something is due by its moment, less is afterwards
  pub smaller :
      (key : Key) (moment : ℕ) (w v : List Site) → moment ≤ key.at → key.at ≤ moment → All Sound w → world_due engine w ≡ Some key → v ≡ (handled_among engine key w).sites
      → world_count basics moment v < world_count basics moment w
  smaller key moment w v l m h d e =
      let f : FallsAmong basics key moment w (handled_among engine key w) = falls key moment w l h d in
      let n : world_count basics moment (handled_among engine key w).sites + tick moment key.at ≤ world_count basics moment w = f.fewer in
      let t : tick moment key.at ≡ 1 = tick_now moment key.at m in
      rw e (omega arith)

  -- nothing is due before the least, and nothing comes to be
  none_before : (e : ℕ) (w : List Site) (k : Key) → world_due engine w ≡ Some k → e < k.at → world_count basics e w ≡ 0
  none_before e w k d l = world_none basics e w (ap (tick_key e) d ∙ tick_past e k.at l)

  -- nothing is due before a moment before which the sites have nothing
  pub from_by : (moment : ℕ) (w : List Site) (o : Option Key) → world_due engine w ≡ o → All Sound w → ((e : ℕ) → e < moment → world_count basics e w ≡ 0) → IsFrom moment o
  from_by moment w None d h z = tt
  from_by moment w (Some k) d h z =
      elim (cases_lt k.at moment) as (λ _. moment ≤ k.at) [
        | inl l ↦
            let one : 1 ≤ world_count basics k.at w = least_counts basics k w h d in
            let none : world_count basics k.at w ≡ 0 = z k.at l in absurd (omega arith)
        | inr l ↦ l
      ]

  -- sites after a handling: sound, with nothing due before it
  pub record IsAfter (key : Key) (v : List Site) : Type 0 where
    pub sound : All Sound v
    pub from : IsFrom key.at (world_due engine v)

  pub from_handled : (key : Key) (w : List Site) → All Sound w → world_due engine w ≡ Some key → IsAfter key (handled_among engine key w).sites
  from_handled key w h d =
      let v : List Site = (handled_among engine key w).sites in
      let s : All Sound v = (falls key 0 w (omega arith) h d).sound in
      record {
        sound = s;
        from = from_by key.at v (world_due engine v) refl s
            (λ e l.
            let z : world_count basics e w ≡ 0 = none_before e w key d l in
            let f : FallsAmong basics key e w (handled_among engine key w) = falls key e w (omega arith) h d in
            let n : world_count basics e v + tick e key.at ≤ world_count basics e w = f.fewer in omega arith);
      }

  pub from_after : (key : Key) (moment : ℕ) (w v : List Site) → moment ≤ key.at → All Sound w → world_due engine w ≡ Some key → v ≡ (handled_among engine key w).sites → IsFrom moment (world_due engine v)
  from_after key moment w v l h d e = rw e (from_sooner moment key.at (world_due engine (handled_among engine key w).sites) l (from_handled key w h d).from)

  pub all_later : (a b : ℕ) (w : List Site) → a ≤ b → All (Past a) w → All (Past b) w
  all_later a b w l h = All-weaker (Past a) (Past b) (λ s p. past_later a b s l p) w h

  -- so nothing is from after what is due next, if that is not before the moment
  pub past_from : (moment : ℕ) (w : List Site) (o : Option Key) → IsFrom moment o → All (Past moment) w → AreOfPast conditions w o
  past_from moment w None f h = tt
  past_from moment w (Some k) f h = all_later moment k.at w f h
