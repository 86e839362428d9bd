-- A partition that ran by itself, no further than to its bound, and what it did handed back: so a machine stands some picks on.
use Rattle.std.specs.Prelude.{All, List, None, Ok, Option, Result, Some, [], get_or, length, set, suc, zero, ℕ, ◌++◌, ◌<◌, ◌∷◌, ◌≡◌, ◌≤◌}
use Rattle.std.proofs.Common.{ap, append_assoc, arith, refl, subst, sym, ◌∙◌}
use Rattle.std.proofs.lemmas.List.{append-nil, get_or-set_same, length-set, set-get_or, set-set}
use Rattle.sim_clock.specs.declared.key.Key.{Key}
use Rattle.sim_clock.specs.declared.refusal.Refusal.{Refusal}
use Rattle.sim_clock.specs.Order.{due_before}
use Rattle.sim_exchange.specs.Layout.{owner_of}
use Rattle.sim_engine.specs.Machine.{ready}
use Rattle.sim_engine.specs.Parts.{part_of}
use Rattle.sim_engine.specs.Rounds.{PartRun, part_after, part_begun, part_on, part_ran_at}
use Rattle.sim_engine.specs.declared.picks.Pick.TheVariants.{Part}
use Rattle.sim_engine.proofs.Rounds.{some_later}
use Rattle.sim_engine.proofs.Worlds.{before_some}
use Rattle.sim_partition.specs.Sites.{AreOfPast, due_in}
use Rattle.sim_partition.proofs.Handled.{past_sites}
use Rattle.sim_partition.proofs.Moments.{IsAfter, from_handled, past_from}
use Rattle.sim_windows.specs.Stages.{Standing, Stands, StandsOn, machine_in}
use Rattle.sim_windows.proofs.Standing.{many_parts, many_rows, part_at, ready_at}
use Rattle.sim_windows.proofs.Stepping.{stepped_by, steps}
use Rattle.sim_engine.specs.World.{world_due, Stepped, handled_among}
use Rattle.sim_engine.specs.Setting.{Setting}
use Rattle.sim_engine.specs.Engine.{Engine}
use Rattle.sim_engine.specs.Laws.{Conditions, SiteLaws}

module _ {Site Row Transfer : Type 0} {engine : Engine Site Row Transfer} {conditions : Conditions Site Transfer} (basics : SiteLaws engine conditions) where
  open conditions use {Sound, Past}

  -- how a machine stands after so much of a partition
  abbrev pub ran_by : Standing Site Row Transfer → ℕ → PartRun engine → Standing Site Row Transfer
  ran_by g p r = record g { parts = set g.parts p (Ok r.sites); rows = set g.rows p (get_or g.rows p [] ++ r.rows); waiting = g.waiting ++ r.sent }

  -- it stands so after some picks, and the partition moves on in time
  pub record RunsOn (s : Setting Site) (g : Standing Site Row Transfer) (p : ℕ) (r : PartRun engine) : Type 0 where
    pub on : StandsOn engine conditions s (ran_by g p r)
    pub sound : All Sound r.sites
    pub past : AreOfPast conditions r.sites (world_due engine r.sites)

  same_sites : (v w : List Site) → (let x : Result (List Site) Refusal = Ok v in x) ≡ Ok w → v ≡ w
  same_sites v w e = cc

  none_ran : (g : Standing Site Row Transfer) (p : ℕ) (w : List Site) (d : Result (List Site) Refusal) → get_or g.parts p d ≡ Ok w → ran_by g p (part_begun engine w) ≡ g
  none_ran g p w d e =
      let parts : set g.parts p (Ok w) ≡ g.parts = ap (set g.parts p) (sym e) ∙ set-get_or g.parts p d in
      let rows : set g.rows p (get_or g.rows p [] ++ []) ≡ g.rows = ap (set g.rows p) (append-nil (get_or g.rows p [])) ∙ set-get_or g.rows p [] in
      ap (λ (z : List (Result (List Site) Refusal)). let x : Standing Site Row Transfer = record g { parts = z; rows = set g.rows p (get_or g.rows p [] ++ []); waiting = g.waiting ++ [] } in x) parts
      ∙ ap (λ (z : List (List Row)). let x : Standing Site Row Transfer = record g { rows = z; waiting = g.waiting ++ [] } in x) rows
      ∙ ap (λ z. let x : Standing Site Row Transfer = record g { waiting = z } in x) (append-nil g.waiting)

  more_ran : (g : Standing Site Row Transfer) (p : ℕ) (r : PartRun engine) (t : Stepped engine) → p < length g.rows → stepped_by basics (ran_by g p r) p t ≡ ran_by g p (part_on engine r t)
  more_ran g p r t l =
      let a : List Row = get_or g.rows p [] ++ r.rows in
      let rows : set (set g.rows p a) p (get_or (set g.rows p a) p [] ++ t.rows) ≡ set g.rows p (get_or g.rows p [] ++ (r.rows ++ t.rows)) =
      set-set g.rows p a (get_or (set g.rows p a) p [] ++ t.rows)
      ∙ ap (λ z. set g.rows p (z ++ t.rows)) (get_or-set_same g.rows p a [] l)
      ∙ ap (set g.rows p) (append_assoc (get_or g.rows p []) r.rows t.rows) in
      ap (λ (z : List (Result (List Site) Refusal)). let x : Standing Site Row Transfer = record g { parts = z; rows = set (set g.rows p a) p (get_or (set g.rows p a) p [] ++ t.rows); waiting = g.waiting ++ r.sent ++ t.sent } in x) (set-set g.parts p (Ok r.sites) (Ok t.sites))
      ∙ ap (λ (z : List (List Row)). let x : Standing Site Row Transfer = record g { parts = set g.parts p (Ok t.sites); rows = z; waiting = g.waiting ++ r.sent ++ t.sent } in x) rows
      ∙ ap (λ z. let x : Standing Site Row Transfer = record g { parts = set g.parts p (Ok t.sites); rows = set g.rows p (get_or g.rows p [] ++ (r.rows ++ t.rows)); waiting = z } in x) (append_assoc g.waiting r.sent t.sent)

  module _ (s : Setting Site) (g : Standing Site Row Transfer) (p bound : ℕ) (l : p < g.layout.parts) (b : bound ≤ get_or g.bounds p 0) where
    one_more : (r : PartRun engine) → RunsOn s g p r → (key : Key) → due_before bound (world_due engine r.sites) ≡ Some key → RunsOn s g p (part_on engine r (handled_among engine key r.sites))
    one_more r h key e =
        let g' : Standing Site Row Transfer = ran_by g p r in
        let st : Stands engine conditions s h.on.picks g' = h.on.stands in
        let d : Result (List Site) Refusal = Ok [] in
        let w : List Site = part_of engine (owner_of g.layout) p (machine_in engine g.layout g.distances s h.on.picks).sites in
        let lp : p < length g.parts = omega (arith, l, many_parts basics s h.on.picks g' st, length-set g.parts p (Ok r.sites)) in
        let lr : p < length g.rows = omega (arith, l, many_rows basics s h.on.picks g' st, length-set g.rows p (get_or g.rows p [] ++ r.rows)) in
        let there : get_or g'.parts p d ≡ Ok r.sites = get_or-set_same g.parts p (Ok r.sites) d lp in
        let is : r.sites ≡ w = same_sites r.sites w (sym there ∙ part_at basics s h.on.picks g' st p d l) in
        let due : world_due engine r.sites ≡ Some key = before_some bound (world_due engine r.sites) key e in
        let ready_is : ready engine (owner_of g.layout) p (machine_in engine g.layout g.distances s h.on.picks) ≡ Some key =
        sym (ready_at basics s h.on.picks g' st p d 0 l) ∙ ap (λ x. due_before (get_or g.bounds p 0) (due_in engine x)) there ∙ some_later bound (get_or g.bounds p 0) (world_due engine r.sites) key b e in
        let past : All (Past key.at) r.sites = subst (AreOfPast conditions r.sites) due h.past in
        let made : Stands engine conditions s (h.on.picks ++ Part p ∷ []) (stepped_by basics g' p (handled_among engine key w)) = steps basics s h.on.picks g' st p l key ready_is (subst (All (Past key.at)) is past) in
        let after : IsAfter basics key (handled_among engine key r.sites).sites = from_handled basics key r.sites h.sound due in
        record {
          on = record {
            picks = h.on.picks ++ Part p ∷ [];
            stands =
                subst (Stands engine conditions s (h.on.picks ++ Part p ∷ [])) (more_ran g p r (handled_among engine key r.sites) lr)
                (subst (λ v. Stands engine conditions s (h.on.picks ++ Part p ∷ []) (stepped_by basics g' p (handled_among engine key v))) (sym is) made);
          };
          sound = after.sound;
          past = past_from basics key.at (handled_among engine key r.sites).sites (world_due engine (handled_among engine key r.sites).sites) after.from (past_sites basics key r.sites past);
        }

    one_more_at : (r : PartRun engine) → RunsOn s g p r → (d : Option Key) → due_before bound (world_due engine r.sites) ≡ d → RunsOn s g p (part_ran_at engine r d)
    one_more_at r h None e = h
    one_more_at r h (Some key) e = one_more r h key e

    -- as many handlings as it took
    pub runs_on : (n : ℕ) (w : List Site) (d : Result (List Site) Refusal) → StandsOn engine conditions s g → get_or g.parts p d ≡ Ok w → All Sound w → AreOfPast conditions w (world_due engine w) → RunsOn s g p (part_after engine bound n w)
    runs_on zero w d on e sound past = record { on = subst (StandsOn engine conditions s) (sym (none_ran g p w d e)) on; sound = sound; past = past }
    runs_on (suc n) w d on e sound past =
        let r : PartRun engine = part_after engine bound n w in
        one_more_at r (runs_on n w d on e sound past) (due_before bound (world_due engine r.sites)) refl
