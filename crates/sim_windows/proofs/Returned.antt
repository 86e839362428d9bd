-- A stage to which one partition more has come back.
use Rattle.std.specs.Prelude.{List, Ok, Result, [], drop, get_or, length, set, ℕ, ◌++◌, ◌+◌, ◌<◌, ◌∷◌, ◌≡◌, ◌≤◌}
use Rattle.std.proofs.Common.{ap, arith, length-append, subst, sym, ◌∙◌}
use Rattle.std.proofs.lemmas.List.{get_or_default, length-drop}
use Rattle.sim_clock.specs.declared.refusal.Refusal.{Refusal}
use Rattle.sim_engine.specs.Engine.{Engine}
use Rattle.sim_engine.specs.Laws.{Conditions, SiteLaws}
use Rattle.sim_engine.specs.Rounds.{PartRun}
use Rattle.sim_engine.specs.Setting.{Setting}
use Rattle.sim_partition.specs.Steps.{part_made}
use Rattle.sim_windows.proofs.Back.{Next, next_part, next_set}
use Rattle.sim_windows.specs.Stages.{Standing, StandsOn, with_parts}
use Rattle.sim_windows.proofs.Rounds.{RunsOn, ran_by, runs_on}
use Rattle.sim_windows.proofs.Standing.{many_bounds, many_parts, many_rows}
use Rattle.sim_windows.specs.declared.lent.Came.{Came}

-- the rows of one list, with more of them
pub rows_back : {R : Type 0} (rows : List (List R)) (k : ℕ) (old new more : List R) → k < length rows → old ≡ get_or rows k old → new ≡ old ++ more → set rows k (get_or rows k [] ++ more) ≡ set rows k new
rows_back rows k old new more l is e = ap (set rows k) (sym (e ∙ ap (λ z. z ++ more) (is ∙ get_or_default rows k old [] l)))

module _ {Site Row Transfer : Type 0} {engine : Engine Site Row Transfer} {conditions : Conditions Site Transfer} (basics : SiteLaws engine conditions) where
  -- the stage with one partition more
  abbrev pub with_one : Standing Site Row Transfer → ℕ → Came Site Row Transfer → List (Result (List Site) Refusal) → Standing Site Row Transfer
  with_one h k one ps =
      record h {
        parts = h.parts ++ one.part ∷ [] ++ drop (k + 1) ps;
        rows = set h.rows k (get_or h.rows k [] ++ one.made.rows.items);
        waiting = h.waiting ++ one.made.sent.items;
      }

  module _ (s : Setting Site) (h : Standing Site Row Transfer) (ps : List (Result (List Site) Refusal)) (ends : List ℕ) (k : ℕ) (one : Came Site Row Transfer) where
    -- it stands where the partition ran within its bound
    pub one_back :
        length h.parts ≡ k → StandsOn engine conditions s (with_parts (h.parts ++ drop k ps) h) → Next basics ends ps k (Ok []) one → (k < length h.bounds → get_or ends k 0 ≤ get_or h.bounds k 0)
        → StandsOn engine conditions s (with_one h k one ps)
    one_back at st next under =
        let d : Result (List Site) Refusal = Ok [] in
        let xs : List (Result (List Site) Refusal) = h.parts in
        let g : Standing Site Row Transfer = with_parts (xs ++ drop k ps) h in
        let there : get_or g.parts k d ≡ Ok next.back.sites = next_part xs ps k d at next.within ∙ next.back.lived in
        let within : k < g.layout.parts = omega (arith, length-append xs (drop k ps), length-drop k ps, at, next.within, many_parts basics s st.picks g st.stands) in
        let no_further : get_or ends k 0 ≤ get_or g.bounds k 0 = under (omega (arith, within, many_bounds basics s st.picks g st.stands)) in
        let ran = next.back.came.ran in
        let done : PartRun engine = part_made engine ran.sites one.made in
        let r : RunsOn basics s g k done =
        subst (RunsOn basics s g k) ran.run.reached
        (runs_on basics s g k (get_or ends k 0) within no_further ran.run.steps next.back.sites d st there next.back.came.sound next.back.came.none_later) in
        let put : set g.parts k (Ok ran.sites) ≡ xs ++ one.part ∷ [] ++ drop (k + 1) ps = ap (set g.parts k) (sym ran.lives) ∙ next_set xs ps k d at next.within one.part in
        let same : ran_by basics g k done ≡ with_one h k one ps =
        ap (λ (z : List (Result (List Site) Refusal)). let x : Standing Site Row Transfer = record g { parts = z; rows = set g.rows k (get_or g.rows k [] ++ one.made.rows.items); waiting = g.waiting ++ one.made.sent.items } in x) put in
        subst (StandsOn engine conditions s) same r.on

    -- there is a list for its rows
    pub within_rows : length h.parts ≡ k → StandsOn engine conditions s (with_parts (h.parts ++ drop k ps) h) → Next basics ends ps k (Ok []) one → k < length h.rows
    within_rows at st next =
        let g : Standing Site Row Transfer = with_parts (h.parts ++ drop k ps) h in
        omega (arith, length-append h.parts (drop k ps), length-drop k ps, at, next.within, many_parts basics s st.picks g st.stands, many_rows basics s st.picks g st.stands)
