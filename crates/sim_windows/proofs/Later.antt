-- A setting to which a run has come is simulated, too.
use Rattle.std.specs.Prelude.{All, List, None, Option, Some, suc, zero, ℕ, ◌+◌, ◌≡◌, ◌≤◌}
use Rattle.std.proofs.Common.{ap, arith, refl, subst, sym}
use Rattle.std.proofs.lemmas.Bool.{le-ltb}
use Rattle.sim_clock.specs.declared.key.Key.{Key}
use Rattle.sim_clock.specs.Order.{due_before}
use Rattle.sim_engine.specs.Engine.{Engine}
use Rattle.sim_engine.specs.Laws.{Conditions, SiteLaws}
use Rattle.sim_engine.specs.Setting.{Setting}
use Rattle.sim_engine.specs.Simulated.{AgreesInParts, IsSimulated, later}
use Rattle.sim_engine.specs.World.{Run, Stepped, after, due_by, handled_among, next_due, stepped_at, world_due}
use Rattle.sim_engine.proofs.Ends.{step_falls}
use Rattle.sim_engine.proofs.Numbered.{numbered_after}
use Rattle.sim_engine.proofs.OneList.{due_is}
use Rattle.sim_engine.proofs.Worlds.{not_before}
use Rattle.sim_partition.specs.Sites.{IsFrom}
use Rattle.sim_partition.proofs.Delivered.{past_delivered}
use Rattle.sim_partition.proofs.Handled.{past_sites, sent_among}
use Rattle.sim_partition.proofs.Moments.{all_later}
use Rattle.sim_windows.specs.Worlds.{sites_after}
use Rattle.sim_windows.proofs.Runs.{from_after, joined}

pub from_none : (moment : ℕ) (d : Option Key) → due_before moment d ≡ None → IsFrom moment d
from_none moment None h = tt
from_none moment (Some k) h = not_before moment k h

none_from : (moment : ℕ) (d : Option Key) → IsFrom moment d → due_before moment d ≡ None
none_from moment None h = refl
none_from moment (Some k) h = rw (le-ltb k.at moment h) refl

module _ {Site Row Transfer : Type 0} {engine : Engine Site Row Transfer} {conditions : Conditions Site Transfer} (basics : SiteLaws engine conditions) where
  open conditions use {Sound, Past}

  -- sites at which time moves on and has come to a moment
  record HasCome (horizon : ℕ) (w : List Site) : Type 0 where
    pub sound : All Sound w
    pub at : ℕ
    pub by : at ≤ horizon
    pub past : All (Past at) w
    pub from : IsFrom at (world_due engine w)

  -- with a handling it comes to the moment of this
  come_on : (horizon : ℕ) (w : List Site) (key : Key) → HasCome horizon w → world_due engine w ≡ Some key → key.at ≤ horizon → HasCome horizon (sites_after engine key w)
  come_on horizon w key h d l =
      let t : Stepped engine = handled_among engine key w in
      let not_sooner : h.at ≤ key.at = subst (IsFrom h.at) d h.from in
      let here : IsFrom key.at (world_due engine w) = subst (IsFrom key.at) (sym d) (let same : key.at ≤ key.at = omega arith in same) in
      let past : All (Past key.at) w = all_later basics h.at key.at w not_sooner h.past in
      record {
        sound = (step_falls basics key 0 w (omega arith) h.sound d).sound;
        at = key.at;
        by = l;
        past = past_delivered basics key.at t.sent t.sites (sent_among basics key w past) (past_sites basics key w past);
        from = from_after basics key key.at w (sites_after engine key w) (omega arith) h.sound d here refl;
      }

  come_at : (horizon : ℕ) (r : Run engine) (d : Option Key) → due_by horizon (world_due engine r.sites) ≡ d → HasCome horizon r.sites → HasCome horizon (stepped_at engine r d).sites
  come_at horizon r None e h = h
  come_at horizon r (Some key) e h =
      let due = due_is basics horizon (world_due engine r.sites) key e in come_on horizon r.sites key h due.0 due.1

  come_after : (horizon n : ℕ) (start : List Site) → HasCome horizon start → HasCome horizon (after engine horizon n start).sites
  come_after horizon zero start h = h
  come_after horizon (suc n) start h =
      let r : Run engine = after engine horizon n start in come_at horizon r (next_due engine horizon r.sites) refl (come_after horizon n start h)

  -- what comes after some handlings and then some more
  later_on : (s : Setting Site) (m n : ℕ) → later engine (m + n) s ≡ later engine m (later engine n s)
  later_on s m n = ap (λ (r : Run engine). let x : Setting Site = record s { opening = r.sites } in x) (joined basics s.horizon m n s.opening)

  pub simulated_later : (s : Setting Site) (n : ℕ) → IsSimulated engine conditions s → IsSimulated engine conditions (later engine n s)
  simulated_later s n h =
      let start : HasCome s.horizon s.opening = record { sound = h.sound; at = h.begun; by = h.by; past = h.past; from = from_none h.begun (world_due engine s.opening) h.none } in
      let come : HasCome s.horizon (after engine s.horizon n s.opening).sites = come_after s.horizon n s.opening start in
      record {
        numbered = numbered_after basics s.horizon n s.opening h.numbered;
        sound = come.sound;
        begun = come.at;
        by = come.by;
        past = come.past;
        none = none_from come.at (world_due engine (after engine s.horizon n s.opening).sites) come.from;
        here = h.on n;
        on = λ m. subst (AgreesInParts engine) (later_on s m n) (h.on (m + n));
      }
