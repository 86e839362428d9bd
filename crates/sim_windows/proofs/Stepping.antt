-- A machine in which a partition handles what it has due.
use Rattle.std.specs.List.{range_with_len}
use Rattle.std.specs.Prelude.{All, List, None, Ok, Result, Some, [], false, filter, get_or, map, set, true, ℕ, ◌++◌, ◌+◌, ◌<◌, ◌==◌, ◌∷◌, ◌≡◌, ◌≤◌}
use Rattle.std.specs.Option.{is_some}
use Rattle.std.proofs.Common.{ap, arith, refl, subst, sym, ◌∙◌}
use Rattle.std.proofs.lemmas.Bool.{eqb-true}
use Rattle.std.proofs.lemmas.List.Elements.{All-append, filter-append}
use Rattle.sim_clock.specs.declared.key.Key.{Key}
use Rattle.sim_clock.specs.declared.refusal.Refusal.{Refusal}
use Rattle.sim_exchange.specs.Layout.{owner_of}
use Rattle.sim_exchange.specs.Table.{distance_in}
use Rattle.sim_engine.specs.Bounds.{own_bound}
use Rattle.sim_engine.specs.Kept.{StaysFrom}
use Rattle.sim_engine.specs.Machine.{Machine, part_played, played_all, ready}
use Rattle.sim_engine.specs.Parts.{handled_in, part_of}
use Rattle.sim_engine.specs.Prefixes.{is_before, part_count}
use Rattle.sim_engine.specs.Rounds.{part_begun, part_on, part_ran_at}
use Rattle.sim_engine.specs.Theorems.{rows_by}
use Rattle.sim_engine.specs.declared.picks.Pick.{Pick}
use Rattle.sim_engine.specs.declared.picks.Pick.TheVariants.{Part}
use Rattle.sim_engine.proofs.Worlds.{before_some}
use Rattle.sim_engine.proofs.Machines.{before_at}
use Rattle.sim_engine.proofs.Parts.{own}
use Rattle.sim_engine.proofs.Rounds.{HasRun, part_runs}
use Rattle.sim_partition.specs.Sites.{HasDue}
use Rattle.sim_partition.specs.Steps.{StopsStep, stepped_count}
use Rattle.sim_engine.specs.Limits.{StopsWhere, most_count}
use Rattle.sim_partition.proofs.Passing.{more_passes, rows_after, stops_for}
use Rattle.sim_partition.proofs.Handled.{past_sites, sent_among}
use Rattle.sim_partition.proofs.Moments.{all_later}
use Rattle.sim_windows.specs.Stages.{Standing, Stands, Took, is_from, machine_in}
use Rattle.sim_windows.proofs.Picked.{all_from}
use Rattle.sim_windows.proofs.Places.{at_place, set_from}
use Rattle.sim_windows.proofs.Standing.{below, keeps, more_picks, shown_in, stands_on}
use Rattle.sim_engine.specs.World.{world_due, Stepped, after, handled_among}
use Rattle.sim_engine.specs.Counts.{rows_count, run_count, sites_count}
use Rattle.sim_engine.specs.Setting.{Setting}
use Rattle.sim_engine.specs.Engine.{Engine}
use Rattle.sim_engine.specs.Laws.{Conditions, SiteLaws}

module _ {Site Row Transfer : Type 0} {engine : Engine Site Row Transfer} {conditions : Conditions Site Transfer} (basics : SiteLaws engine conditions) where
  open conditions use {Past, Timely}

  -- how a machine stands after the handling of a partition
  abbrev pub stepped_by : Standing Site Row Transfer → ℕ → Stepped engine → Standing Site Row Transfer
  stepped_by g p t = record g { parts = set g.parts p (Ok t.sites); rows = set g.rows p (get_or g.rows p [] ++ t.rows); waiting = g.waiting ++ t.sent }

  module _ (s : Setting Site) (done : List Pick) (g : Standing Site Row Transfer) (st : Stands engine conditions s done g) (p : ℕ) (l : p < g.layout.parts) (key : Key) (ready_is : ready engine (owner_of g.layout) p (machine_in engine g.layout g.distances s done) ≡ Some key) where
    open shown_in engine s done g use {owner as o, rule, machine as m}

    abbrev x : Machine engine
    x = machine_in engine g.layout g.distances s (done ++ Part p ∷ [])

    abbrev w : List Site
    w = part_of engine (owner_of g.layout) p (machine_in engine g.layout g.distances s done).sites

    abbrev t : Stepped engine
    t = handled_among engine key (part_of engine (owner_of g.layout) p (machine_in engine g.layout g.distances s done).sites)

    ran : HasRun basics o s.horizon rule p m (part_on engine (part_begun engine w) t) x
    ran =
        subst (λ (y : Machine engine). HasRun basics o s.horizon rule p m (part_on engine (part_begun engine w) t) y) (sym (more_picks basics s done g st (Part p ∷ [])))
        (subst (λ r. HasRun basics o s.horizon rule p m r (played_all engine o s.horizon rule (Part p ∷ []) m)) (ap (part_ran_at engine (part_begun engine w)) ready_is) (part_runs basics o s.horizon rule p 1 m))

    stays : StaysFrom engine o g.settled x (handled_in engine o p key m.sites)
    stays = st.sound.stays o g.layout.parts (below basics s done g st) (distance_in g.distances) st.distances done g.settled p key st.forward.none ready_is

    late : All (λ r. is_before engine g.settled r ≡ false) t.rows
    late = subst (All (λ r. is_before engine g.settled r ≡ false)) (own basics o p key m.sites).rows stays.rows

    abbrev rows_in : Machine engine → ℕ → List Row
    rows_in y q = filter (is_from engine g.settled) (rows_by engine y.told q)

    rows_there : get_or g.rows p [] ++ t.rows ≡ rows_in x p
    rows_there =
        ap (λ z. z ++ t.rows) (ap (λ xs. get_or xs p []) st.shows.rows ∙ at_place (rows_in m) g.layout.parts p [] l)
        ∙ ap (λ z. rows_in m p ++ z) (sym (all_from basics g.settled t.rows late))
        ∙ sym (filter-append (is_from engine g.settled) (rows_by engine m.told p) t.rows)
        ∙ ap (filter (is_from engine g.settled)) (sym ran.rows)

    abbrev part_in : Machine engine → ℕ → Result (List Site) Refusal
    part_in y q = Ok (part_of engine o q y.sites)

    past_there : All (Past key.at) w → (q : ℕ) → q < g.layout.parts → All (Past (x.bounds q)) (part_of engine o q x.sites)
    past_there h q k =
        let before : key.at < m.bounds p = before_at (m.bounds p) (world_due engine w) key ready_is in
        let here : All (Past (m.bounds p)) t.sites = all_later basics key.at (m.bounds p) t.sites (omega arith) (past_sites basics key w h) in
        elim (p == q) as (λ b. (p == q) ≡ b → All (Past (x.bounds q)) (part_of engine o q x.sites)) [
          | true ↦ λ e.
              let is : p ≡ q = eqb-true p q e in
              subst (λ n. All (Past (x.bounds n)) (part_of engine o n x.sites)) is
              (subst (λ (b : ℕ → ℕ). All (Past (b p)) (part_of engine o p x.sites)) (sym ran.bounds) (subst (All (Past (m.bounds p))) (sym ran.sites) here))
          | false ↦ λ e.
              subst (λ (b : ℕ → ℕ). All (Past (b q)) (part_of engine o q x.sites)) (sym ran.bounds) (subst (All (Past (m.bounds q))) (sym (ran.others q e)) (st.forward.past q k))
        ] refl

    -- it stands as the definitions' machine does after that pick
    pub steps : All (Past key.at) w → Stands engine conditions s (done ++ Part p ∷ []) (stepped_by g p t)
    steps h =
        record {
          split = st.split;
          shows = record {
            parts =
                ap (λ z. set z p (Ok t.sites)) st.shows.parts
                ∙ set_from (part_in m) (part_in x) (Ok t.sites) 0 g.layout.parts p p l (omega arith) (ap (λ z. let y : Result (List Site) Refusal = Ok z in y) (sym ran.sites))
                (λ q e. ap (λ z. let y : Result (List Site) Refusal = Ok z in y) (sym (ran.others q e)));
            bounds = st.shows.bounds ∙ ap (λ (b : ℕ → ℕ). map b (range_with_len 0 g.layout.parts)) (sym ran.bounds);
            rows =
                ap (λ z. set z p (get_or g.rows p [] ++ t.rows)) st.shows.rows
                ∙ set_from (rows_in m) (rows_in x) (get_or g.rows p [] ++ t.rows) 0 g.layout.parts p p l (omega arith) rows_there (λ q e. ap (filter (is_from engine g.settled)) (sym (ran.rows_others q e)));
            waiting = ap (λ z. z ++ t.sent) st.shows.waiting ∙ sym ran.waiting;
          };
          forward = record {
            past = past_there h;
            timely = subst (All Timely) (sym ran.waiting) (All-append Timely m.waiting t.sent st.forward.timely (sent_among basics key w h));
            within = st.forward.within;
            reached = λ q k. subst (λ (b : ℕ → ℕ). g.settled ≤ b q) (sym ran.bounds) (st.forward.reached q k);
            none = stays.none;
          };
        }

  -- a pick that takes no effect
  pub took_none : (s : Setting Site) (done : List Pick) (g : Standing Site Row Transfer) (st : Stands engine conditions s done g) (p : ℕ) → ready engine (owner_of g.layout) p (machine_in engine g.layout g.distances s done) ≡ None → Took engine conditions g g s done (Part p) false
  took_none s done g st p none =
      let m : Machine engine = machine_in engine g.layout g.distances s done in
      record {
        stands = stands_on basics s done g st (Part p ∷ []) (sym (more_picks basics s done g st (Part p ∷ []) ∙ ap (part_played engine (owner_of g.layout) p m) none));
        same = record { layout = refl; distances = refl };
        effect = sym (ap is_some none);
        settled = refl;
      }

  module _ (s : Setting Site) (done : List Pick) (g : Standing Site Row Transfer) (st : Stands engine conditions s done g) (p : ℕ) (l : p < g.layout.parts) (key : Key) (ready_is : ready engine (owner_of g.layout) p (machine_in engine g.layout g.distances s done) ≡ Some key) where
    -- what is due there
    pub due_is : world_due engine (part_of engine (owner_of g.layout) p (machine_in engine g.layout g.distances s done).sites) ≡ Some key
    due_is = before_some ((machine_in engine g.layout g.distances s done).bounds p) (world_due engine (part_of engine (owner_of g.layout) p (machine_in engine g.layout g.distances s done).sites)) key ready_is

    pub has_due : HasDue engine (part_of engine (owner_of g.layout) p (machine_in engine g.layout g.distances s done).sites)
    has_due =
        let before : key.at < (machine_in engine g.layout g.distances s done).bounds p =
        before_at ((machine_in engine g.layout g.distances s done).bounds p) (world_due engine (part_of engine (owner_of g.layout) p (machine_in engine g.layout g.distances s done).sites)) key ready_is in
        let capped : (machine_in engine g.layout g.distances s done).bounds p ≤ s.horizon + 1 = (keeps basics s done g st).capped p in
        record { key = key; due = due_is; moment = omega (arith, st.range, st.horizon) }

    -- where its handling passes a count, the run does
    pub stops_over : (e : Refusal) → StopsStep engine (handled_among engine key (part_of engine (owner_of g.layout) p (machine_in engine g.layout g.distances s done).sites)) e → StopsWhere (((n : ℕ) × (most_count < run_count engine (after engine s.horizon n s.opening)))) e
    stops_over e h =
        let y : Machine engine = machine_in engine g.layout g.distances s (done ++ Part p ∷ []) in
        let w : List Site = part_of engine (owner_of g.layout) p (machine_in engine g.layout g.distances s done).sites in
        let t : Stepped engine = handled_among engine key w in
        let r : HasRun basics (owner_of g.layout) s.horizon (own_bound engine (owner_of g.layout) (distance_in g.distances) g.layout.parts s.horizon) p (machine_in engine g.layout g.distances s done) (part_on engine (part_begun engine w) t) y = ran s done g st p l key ready_is in
        let counts : (n : ℕ) × (part_count engine (owner_of g.layout) p y ≤ run_count engine (after engine s.horizon n s.opening)) =
        (st.sound.holds (owner_of g.layout) g.layout.parts (below basics s done g st) (distance_in g.distances) st.distances).counts (done ++ Part p ∷ []) p in
        let sites : sites_count engine t.sites ≤ sites_count engine (part_of engine (owner_of g.layout) p y.sites) = omega (arith, ap (sites_count engine) r.sites) in
        let rows : rows_count engine t.rows ≤ rows_count engine (rows_by engine y.told p) = subst (λ z. rows_count engine t.rows ≤ rows_count engine z) (sym r.rows) (rows_after basics (rows_by engine (machine_in engine g.layout g.distances s done).told p) t.rows) in
        stops_for (most_count < stepped_count engine t) (((n : ℕ) × (most_count < run_count engine (after engine s.horizon n s.opening)))) e
        (λ passes.
        let more : most_count < part_count engine (owner_of g.layout) p y = more_passes (sites_count engine t.sites) (rows_count engine t.rows) (sites_count engine (part_of engine (owner_of g.layout) p y.sites)) (rows_count engine (rows_by engine y.told p)) sites rows passes in
        (counts.0, omega (arith, counts.1))) h
