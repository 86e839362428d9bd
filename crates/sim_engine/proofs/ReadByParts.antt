-- What a machine may do is read off its partitions.
use Rattle.std.specs.List.{list_any}
use Rattle.std.specs.Option.{is_some}
use Rattle.std.specs.Prelude.{List, None, Option, Some, [], cond, false, true, ℕ, ◌+◌, ◌<◌, ◌==◌, ◌∷◌, ◌≡◌, ◌||◌}
use Rattle.std.proofs.Common.{ap, arith, refl, sym, ◌∙◌}
use Rattle.std.proofs.lemmas.Bool.{cases_lt, eq-eqb}
use Rattle.sim_clock.specs.declared.key.Key.{Key}
use Rattle.sim_clock.specs.Order.{due_before, lesser}
use Rattle.sim_engine.specs.World.{least_due, world_due, due_by}
use Rattle.sim_engine.specs.Machine.{is_ready}
use Rattle.sim_engine.specs.Parts.{part_due, part_of}
use Rattle.sim_engine.specs.Rounds.{MachinesAreReadByParts}
use Rattle.sim_engine.proofs.EarlyRows.{part_empty}
use Rattle.sim_engine.proofs.Machines.{none_ready_of}
use Rattle.sim_engine.proofs.OneList.{both_none, world_none_of, parts}
use Rattle.sim_engine.proofs.Parts.{before_lesser}
use Rattle.sim_engine.specs.Engine.{Engine}
use Rattle.sim_engine.specs.Laws.{Conditions, SiteLaws}
use Rattle.sim_engine.proofs.Branches.{by_either}

-- nothing by the horizon is nothing before the moment after it
pub past_by : (horizon : ℕ) (d : Option Key) → due_by horizon d ≡ None → due_before (horizon + 1) d ≡ None
past_by horizon None h = refl
past_by horizon (Some k) h = grind (arith, h)

pub by_past : (horizon : ℕ) (d : Option Key) → due_before (horizon + 1) d ≡ None → due_by horizon d ≡ None
by_past horizon None h = refl
by_past horizon (Some k) h = grind (arith, h)

module _ {Site Row Transfer : Type 0} {engine : Engine Site Row Transfer} {conditions : Conditions Site Transfer} (basics : SiteLaws engine conditions) where
  open engine use {number}

  module _ (owner : ℕ → ℕ) where
    rest_none : (bounds : ℕ → ℕ) (s : Site) (ss : List Site) → ((p : ℕ) → due_before (bounds p) (part_due engine owner p (s ∷ ss)) ≡ None) → (p : ℕ) → due_before (bounds p) (part_due engine owner p ss) ≡ None
    rest_none bounds s ss h p =
        elim (owner (number s) == p) as (λ b. due_before (bounds p) (world_due engine (cond b (s ∷ part_of engine owner p ss) (part_of engine owner p ss))) ≡ None → due_before (bounds p) (part_due engine owner p ss) ≡ None) [
          | true ↦ λ e. (both_none basics owner (due_before (bounds p) (least_due engine s)) (due_before (bounds p) (part_due engine owner p ss)) (sym (before_lesser basics (bounds p) (least_due engine s) (part_due engine owner p ss)) ∙ e)).1
          | false ↦ λ e. e
        ] (h p)

    none_ready : (bounds : ℕ → ℕ) (w : List Site) → ((p : ℕ) → due_before (bounds p) (part_due engine owner p w) ≡ None) → list_any (is_ready engine owner bounds) w ≡ false
    none_ready bounds [] h = refl
    none_ready bounds (s ∷ ss) h =
        let p = owner (number s) in
        let o : (owner (number s) == p) ≡ true = eq-eqb p p refl in
        let both : due_before (bounds p) (lesser (least_due engine s) (part_due engine owner p ss)) ≡ None = sym (ap (λ b. due_before (bounds p) (world_due engine (cond b (s ∷ part_of engine owner p ss) (part_of engine owner p ss)))) o) ∙ h p in
        let one : due_before (bounds p) (least_due engine s) ≡ None = (both_none basics owner (due_before (bounds p) (least_due engine s)) (due_before (bounds p) (part_due engine owner p ss)) (sym (before_lesser basics (bounds p) (least_due engine s) (part_due engine owner p ss)) ∙ both)).0 in
        ap (λ d. is_some d || list_any (is_ready engine owner bounds) ss) one ∙ none_ready bounds ss (rest_none bounds s ss h)

    -- what holds of the partitions that there are holds of all
    of_parts : (parts : ℕ) → ((n : ℕ) → owner n < parts) → (w : List Site) (f : ℕ → Option Key → Option Key) → ((p : ℕ) → f p None ≡ None) → ((p : ℕ) → p < parts → f p (part_due engine owner p w) ≡ None) → (p : ℕ) → f p (part_due engine owner p w) ≡ None
    of_parts parts o w f n h p =
        by_either (cases_lt p parts) (λ k. h p k) (λ k. ap (λ z. f p (world_due engine z)) (part_empty basics owner parts p o k w) ∙ n p)

  pub machines_are_read_by_parts : MachinesAreReadByParts engine
  machines_are_read_by_parts owner parts horizon m o =
      record {
        stops = λ h. none_ready owner m.bounds m.sites (of_parts owner parts o m.sites (λ p. due_before (m.bounds p)) (λ p. refl) h);
        stopped = λ h p. none_ready_of basics owner m.bounds p m.sites h;
        ends = λ h.
            by_past horizon (world_due engine m.sites)
            (world_none_of basics owner (horizon + 1) m.sites (λ p. past_by horizon (part_due engine owner p m.sites) (of_parts owner parts o m.sites (λ q. due_by horizon) (λ q. refl) h p)) (world_due engine m.sites) refl);
      }
