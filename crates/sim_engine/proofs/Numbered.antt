-- Sites that are numbered from some number on stand in the order of their numbers, and keep them.
use Rattle.std.specs.Prelude.{List, None, Option, Some, [], false, if◌then◌else◌, map, suc, true, zero, ℕ, ◌+◌, ◌∷◌}
use Rattle.std.proofs.Common.{arith, subst, sym, ◌∙◌}
use Rattle.sim_clock.specs.declared.key.Key.{Key}
use Rattle.sim_engine.specs.Engine.{Engine}
use Rattle.sim_engine.specs.Laws.{Conditions, SiteLaws}
use Rattle.sim_engine.specs.Members.{Ascends}
use Rattle.sim_engine.specs.Setting.{IsNumbered}
use Rattle.sim_engine.specs.World.{Run, after, delivered, delivered_one, handled_among, handled_here, handled_there, is_due, least_due, next_due, stepped_at}
use Rattle.sim_engine.proofs.Parts.{one_number}

module _ {Site Row Transfer : Type 0} (engine : Engine Site Row Transfer) where
  open engine use {number}

  pub numbered_ascends : (n : ℕ) (w : List Site) → IsNumbered engine n w → Ascends number n w
  numbered_ascends n [] h = tt
  numbered_ascends n (s ∷ ss) h =
      (omega (arith, h.0), subst (λ k. Ascends number (k + 1) ss) (sym h.0) (numbered_ascends (n + 1) ss h.1))

module _ {Site Row Transfer : Type 0} {engine : Engine Site Row Transfer} {conditions : Conditions Site Transfer} (basics : SiteLaws engine conditions) where
  open engine use {handled}
  open basics use {number_handled}

  -- sites keep their numbers in a run
  numbered_one : (o : Transfer) (n : ℕ) (w : List Site) → IsNumbered engine n w → IsNumbered engine n (map (delivered_one engine o) w)
  numbered_one o n [] h = tt
  numbered_one o n (s ∷ ss) h = (one_number basics o s ∙ h.0, numbered_one o (n + 1) ss h.1)

  numbered_delivered : (os : List Transfer) (n : ℕ) (w : List Site) → IsNumbered engine n w → IsNumbered engine n (delivered engine os w)
  numbered_delivered [] n w h = h
  numbered_delivered (o ∷ os) n w h = numbered_delivered os n (map (delivered_one engine o) w) (numbered_one o n w h)

  numbered_among : (key : Key) (n : ℕ) (w : List Site) → IsNumbered engine n w → IsNumbered engine n (handled_among engine key w).sites
  numbered_among key n [] h = tt
  numbered_among key n (s ∷ ss) h =
      elim (is_due key (least_due engine s)) as (λ b. IsNumbered engine n (if b then handled_here engine (handled key s) ss else handled_there engine s (handled_among engine key ss)).sites) [
        | true ↦ (number_handled key s ∙ h.0, h.1)
        | false ↦ (h.0, numbered_among key (n + 1) ss h.1)
      ]

  numbered_at : (r : Run engine) (d : Option Key) → IsNumbered engine 0 r.sites → IsNumbered engine 0 (stepped_at engine r d).sites
  numbered_at r None h = h
  numbered_at r (Some key) h = numbered_delivered (handled_among engine key r.sites).sent 0 (handled_among engine key r.sites).sites (numbered_among key 0 r.sites h)

  pub numbered_after : (horizon n : ℕ) (start : List Site) → IsNumbered engine 0 start → IsNumbered engine 0 (after engine horizon n start).sites
  numbered_after horizon zero start h = h
  numbered_after horizon (suc n) start h = numbered_at (after engine horizon n start) (next_due engine horizon (after engine horizon n start).sites) (numbered_after horizon n start h)
