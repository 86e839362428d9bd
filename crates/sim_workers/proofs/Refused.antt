-- Why a round is refused: out of memory, or a count that the scenario's run takes past the limit.
use Rattle.std.specs.Prelude.{Err, List, None, Ok, Option, Result, Some, [], get_or, length, suc, ℕ, ◌++◌, ◌<◌, ◌∷◌, ◌≡◌, ◌≤◌, ◌⊎◌}
use Rattle.std.proofs.Common.{ap, arith, inl, inr, refl, subst, sym, ◌∙◌}
use Rattle.sim_clock.specs.declared.refusal.Refusal.{Refusal}
use Rattle.sim_clock.specs.declared.refusal.Refusal.TheVariants as refusals
use Rattle.sim_exchange.specs.Table.{distance_in}
use Rattle.sim_engine.specs.Machine.{Machine, played_all}
use Rattle.sim_engine.specs.Parts.{part_of}
use Rattle.sim_engine.specs.Prefixes.{part_count}
use Rattle.sim_engine.specs.Rounds.{PartRun, part_after, picks_of}
use Rattle.sim_engine.specs.Theorems.{rows_by}
use Rattle.sim_engine.specs.declared.picks.Pick.{Pick}
use Rattle.sim_engine.proofs.Rounds.{HasRun, part_runs_to}
use Rattle.sim_partition.specs.Steps.{StopsRun, ran_count}
use Rattle.sim_engine.specs.Limits.{IsOver, StopsWhere, most_count}
use Rattle.sim_partition.proofs.Passing.{more_passes, rows_after, stops_for}
use Rattle.sim_windows.specs.Stages.{Standing, Stands, machine_in}
use Rattle.sim_windows.proofs.Standing.{below, bound_at, many_bounds, many_parts, more_picks, part_at, shown_in}
use Rattle.sim_windows.specs.Rounds.{AllCome, AreWithin, Comes}
use Rattle.sim_workers.specs.Rounds.{IsRefusedRound, graver, gravest_from, gravest_of}
use Rattle.sim_windows.specs.declared.lent.Came.{Came}
use Rattle.sim_engine.specs.Limits.{most_count}
use Rattle.sim_engine.specs.Counts.{rows_count, run_count, sites_count}
use Rattle.sim_engine.specs.World.{after}
use Rattle.sim_engine.specs.Setting.{Setting}
use Rattle.sim_engine.specs.Engine.{Engine}
use Rattle.sim_engine.specs.Laws.{Conditions, SiteLaws}

module _ {Site Row Transfer : Type 0} {engine : Engine Site Row Transfer} {conditions : Conditions Site Transfer} (basics : SiteLaws engine conditions) where
  -- a partition that is refused
  pub record IsSpent (bs : List ℕ) (ps : List (Result (List Site) Refusal)) (d : Result (List Site) Refusal) (e : Refusal) : Type 0 where
    pub place : ℕ
    pub within : place < length ps
    pub comes : Comes engine conditions (get_or bs place 0) (get_or ps place d) (Err e)

  further : (b : ℕ) (bs : List ℕ) (p : Result (List Site) Refusal) (ps : List (Result (List Site) Refusal)) (d : Result (List Site) Refusal) (e : Refusal) → IsSpent bs ps d e → IsSpent (b ∷ bs) (p ∷ ps) d e
  further b bs p ps d e h = record { place = suc h.place; within = omega (arith, h.within); comes = h.comes }

  graver_is : (f x : Refusal) → (graver f x ≡ f) ⊎ (graver f x ≡ x)
  graver_is f refusals.Memory = inr refl
  graver_is f x = inl refl

  gravest_is : (before : Option Refusal) (x e : Refusal) → gravest_of before x ≡ e → (before ≡ Some e) ⊎ (x ≡ e)
  gravest_is None x e h = inr h
  gravest_is (Some f) x e h = elim (graver_is f x) as (λ _. (let o : Option Refusal = Some f in o ≡ Some e) ⊎ (x ≡ e)) [ inl k ↦ inl (ap (λ (y : Refusal). Some y) (sym k ∙ h)) | inr k ↦ inr (sym k ∙ h) ]

  same_refusal : (x e : Refusal) → (let o : Option Refusal = Some x in o) ≡ Some e → x ≡ e
  same_refusal x e h = cc

  spent_among :
      (bs : List ℕ) (ps : List (Result (List Site) Refusal)) (os : List (Result (Came Site Row Transfer) Refusal)) (d : Result (List Site) Refusal) (before : Option Refusal) (e : Refusal)
      → AllCome engine conditions bs ps os → gravest_from before os ≡ Some e → (before ≡ Some e) ⊎ IsSpent bs ps d e
  spent_among [] [] [] d before e h g = inl g
  spent_among (b ∷ bs) (p ∷ ps) (Ok c ∷ os) d before e h g =
      elim (spent_among bs ps os d before e h.1 g) as (λ _. (before ≡ Some e) ⊎ IsSpent (b ∷ bs) (p ∷ ps) d e) [ inl k ↦ inl k | inr k ↦ inr (further b bs p ps d e k) ]
  spent_among (b ∷ bs) (p ∷ ps) (Err x ∷ os) d before e h g =
      elim (spent_among bs ps os d (Some (gravest_of before x)) e h.1 g) as (λ _. (before ≡ Some e) ⊎ IsSpent (b ∷ bs) (p ∷ ps) d e) [
        | inl k ↦
            elim (gravest_is before x e (same_refusal (gravest_of before x) e k)) as (λ _. (before ≡ Some e) ⊎ IsSpent (b ∷ bs) (p ∷ ps) d e) [
              | inl i ↦ inl i
              | inr i ↦ inr (record { place = 0; within = omega arith; comes = subst (λ y. Comes engine conditions b p (Err y)) i h.0 })
            ]
        | inr k ↦ inr (further b bs p ps d e k)
      ]
  spent_among _ _ _ d before e h g = absurd h

  no_refusal : (e : Refusal) → (let o : Option Refusal = None in o) ≡ Some e → ⊥
  no_refusal e h = cc

  module _ (s : Setting Site) (done : List Pick) (g : Standing Site Row Transfer) (st : Stands engine conditions s done g) where
    open shown_in engine s done g use {owner as o, rule, machine as m}

    -- where a partition's run passes a count, the scenario's does
    part_over : (p bound : ℕ) (e : Refusal) → bound ≤ m.bounds p → StopsRun engine bound (part_of engine o p m.sites) e → StopsWhere (IsOver engine s) e
    part_over p bound e within h =
        let w : List Site = part_of engine o p m.sites in
        stops_for ((n : ℕ) × (most_count < ran_count engine (part_after engine bound n w))) (IsOver engine s) e
        (λ passes.
        let so : (k : ℕ) × (HasRun basics) o s.horizon rule p m (part_after engine bound passes.0 w) (played_all engine o s.horizon rule (picks_of p k) m) = part_runs_to basics o s.horizon rule p bound passes.0 m within in
        let picks : List Pick = picks_of p so.0 in
        let r : PartRun engine = part_after engine bound passes.0 w in
        let x : Machine engine = machine_in engine g.layout g.distances s (done ++ picks) in
        let ran : HasRun basics o s.horizon rule p m r x = subst (λ (y : Machine engine). HasRun basics o s.horizon rule p m r y) (sym (more_picks basics s done g st picks)) so.1 in
        let counts : (n : ℕ) × (part_count engine o p x ≤ run_count engine (after engine s.horizon n s.opening)) =
        (st.sound.holds o g.layout.parts (below basics s done g st) (distance_in g.distances) st.distances).counts (done ++ picks) p in
        let sites : sites_count engine r.sites ≤ sites_count engine (part_of engine o p x.sites) = omega (arith, ap (sites_count engine) ran.sites) in
        let rows : rows_count engine r.rows ≤ rows_count engine (rows_by engine x.told p) = subst (λ z. rows_count engine r.rows ≤ rows_count engine z) (sym ran.rows) (rows_after basics (rows_by engine m.told p) r.rows) in
        let more : most_count < part_count engine o p x = more_passes (sites_count engine r.sites) (rows_count engine r.rows) (sites_count engine (part_of engine o p x.sites)) (rows_count engine (rows_by engine x.told p)) sites rows passes.1 in
        (counts.0, omega (arith, counts.1))) h

    spent_over : (ends : List ℕ) (d : Result (List Site) Refusal) (e : Refusal) → AreWithin ends g.bounds → IsSpent ends g.parts d e → StopsWhere (IsOver engine s) e
    spent_over ends d e within h =
        let l : h.place < g.layout.parts = omega (arith, h.within, many_parts basics s done g st) in
        let k : h.place < length g.bounds = omega (arith, l, many_bounds basics s done g st) in
        part_over h.place (get_or ends h.place 0) e
        (subst (λ b. get_or ends h.place 0 ≤ b) (bound_at basics s done g st h.place 0 l) (within h.place k))
        (subst (λ p. Comes engine conditions (get_or ends h.place 0) p (Err e)) (part_at basics s done g st h.place d l) h.comes)

    -- so it is of a round
    pub round_over : (ends : List ℕ) (e : Refusal) → AreWithin ends g.bounds → IsRefusedRound engine conditions ends g.parts e → StopsWhere (IsOver engine s) e
    round_over ends e within (inl memory) = subst (StopsWhere (IsOver engine s)) (sym memory) tt
    round_over ends e within (inr refused) =
        let d : Result (List Site) Refusal = Ok [] in
        elim (spent_among ends g.parts refused.outcomes d None e refused.come refused.graver) as (λ _. StopsWhere (IsOver engine s) e) [
          | inl k ↦ absurd (no_refusal e k)
          | inr k ↦ spent_over ends d e within k
        ]
