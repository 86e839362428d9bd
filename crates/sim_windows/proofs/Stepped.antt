-- What a stage does, by what its fields come to.
use Rattle.std.specs.Option.{is_some}
use Rattle.std.specs.Prelude.{All, IfOk, List, None, Ok, Result, Some, [], false, filter, get_or, if◌then◌else◌, length, map, not, set, true, ℕ, ◌++◌, ◌<◌, ◌∷◌, ◌≡◌, ◌≤◌, ◌||◌}
use Rattle.std.proofs.Common.{ap, arith, inl, inr, refl, subst, sym, true≢false, ◌∙◌}
use Rattle.std.proofs.lemmas.Bool.{cases_lt}
use Rattle.std.proofs.lemmas.List.{append-nil, get_or_default}
use Rattle.sim_clock.specs.declared.key.Key.{Key}
use Rattle.sim_clock.specs.declared.refusal.Refusal.{Refusal}
use Rattle.sim_engine.proofs.Progress.{some_of}
use Rattle.sim_engine.specs.Bounds.{least_bound}
use Rattle.sim_engine.specs.Engine.{Engine}
use Rattle.sim_engine.specs.Laws.{Conditions, SiteLaws}
use Rattle.sim_engine.specs.Limits.{IsOver, StopsWhere, most_count}
use Rattle.sim_engine.specs.Machine.{Machine, is_finished, ready}
use Rattle.sim_engine.specs.Merge.{merged_all, row_cmp}
use Rattle.sim_engine.specs.Parts.{part_of}
use Rattle.sim_engine.specs.Prefixes.{is_before}
use Rattle.sim_engine.specs.Setting.{Setting}
use Rattle.sim_engine.specs.World.{Stepped, handled_among, world_due}
use Rattle.sim_engine.specs.declared.picks.Pick.{Pick}
use Rattle.sim_engine.specs.declared.picks.Pick.TheVariants.{Barrier, Part}
use Rattle.sim_exchange.specs.Layout.{owner_of}
use Rattle.sim_partition.specs.Sites.{AreOfPast, HasDue}
use Rattle.sim_partition.specs.Steps.{StopsStep}
use Rattle.sim_windows.specs.Stages.{Follows, IsStanding, Settles, Standing, Stands, Takes, Tells, Took, bounded_by, bounds_by, delivered_by, end_in, lower_bound_in, is_finished_in, left_in, machine_at, next_in, ready_in, settled_by, standing_of, takes_effect_in, up_to}
use Rattle.sim_windows.specs.declared.kept.Kept.{Kept}
use Rattle.sim_windows.proofs.Advancing.{barrier_less}
use Rattle.sim_windows.proofs.LowerBounds.{next_in as next_rows, settles}
use Rattle.sim_windows.proofs.Meetings.{barrier_none, bounds_in, live, many_delivered, meets, parts_in}
use Rattle.sim_windows.proofs.Reading.{end_is, finished_is, lower_bound_is, has_next, past_parts, ready_is}
use Rattle.sim_windows.proofs.Standing.{many_parts, many_rows, part_at}
use Rattle.sim_windows.proofs.Stepping.{due_is, has_due, stepped_by, steps, stops_over, took_none}

module _ {Site Row Transfer : Type 0} {engine : Engine Site Row Transfer} {conditions : Conditions Site Transfer} (basics : SiteLaws engine conditions) where
  open conditions use {Past}

  -- where something may be handled there is a partition
  pub within : (g : Standing Site Row Transfer) (p : ℕ) → is_some (ready_in engine g p) ≡ true → p < length g.parts
  within g p some =
      elim (cases_lt p (length g.parts)) as (λ _. p < length g.parts) [
        | inl l ↦ l
        | inr l ↦ absurd (true≢false (sym some ∙ ap is_some (past_parts basics g p l)))
      ]

  -- a partition that has something to handle
  pub record Here (s : Setting Site) (done : List Pick) (g : Standing Site Row Transfer) (p : ℕ) : Type 0 where
    pub within : p < g.layout.parts
    pub key : Key
    pub ready_is : ready engine (owner_of g.layout) p (machine_at engine g s done) ≡ Some key

  pub here : (s : Setting Site) (done : List Pick) (g : Standing Site Row Transfer) → Stands engine conditions s done g → (p : ℕ) → is_some (ready_in engine g p) ≡ true → Here s done g p
  here s done g st p some =
      let k = some_of (ready engine (owner_of g.layout) p (machine_at engine g s done)) (ap is_some (sym (ready_is basics s done g st p)) ∙ some) in
      record { within = omega (arith, within g p some, many_parts basics s done g st); key = k.0; ready_is = k.1 }

  -- the handling of a partition's least due
  module _ (kept : Kept Site Row Transfer) (parts : List (Result (List Site) Refusal)) (p : ℕ) (d : Result (List Site) Refusal) (is : d ≡ get_or parts p d) (some : is_some (ready_in engine (standing_of kept parts) p) ≡ true) where
    abbrev g : Standing Site Row Transfer
    g = standing_of kept parts

    module _ (s : Setting Site) (done : List Pick) (st : Stands engine conditions s done g) where
      abbrev w : List Site
      w = part_of engine (owner_of kept.layout) p (machine_at engine (standing_of kept parts) s done).sites

      pub lives : d ≡ Ok (part_of engine (owner_of kept.layout) p (machine_at engine (standing_of kept parts) s done).sites)
      lives = is ∙ part_at basics s done g st p d (here s done g st p some).within

      pub can_step : IfOk d (HasDue engine)
      can_step =
          let h : Here s done g p = here s done g st p some in
          subst (λ (x : Result (List Site) Refusal). IfOk x (HasDue engine)) (sym lives) (has_due basics s done g st p h.within h.key h.ready_is)

      pub over : (refusal : Refusal) → IfOk d (λ v. (key : Key) → world_due engine v ≡ Some key → StopsStep engine (handled_among engine key v) refusal) → StopsWhere (IsOver engine s) refusal
      over refusal stops =
          let h : Here s done g p = here s done g st p some in
          let there : (key : Key) → world_due engine w ≡ Some key → StopsStep engine (handled_among engine key w) refusal =
          subst (λ (x : Result (List Site) Refusal). IfOk x (λ v. (key : Key) → world_due engine v ≡ Some key → StopsStep engine (handled_among engine key v) refusal)) lives stops in
          stops_over basics s done g st p h.within h.key h.ready_is refusal (there h.key (due_is basics s done g st p h.within h.key h.ready_is))

      pub many : p < length kept.rows.items
      many =
          let h : Here s done g p = here s done g st p some in
          omega (arith, h.within, many_rows basics s done g st)

      pub stepped :
          (now : Result (List Site) Refusal) (rows : List Row) (sent waiting : List Transfer) (old new : List Row)
          → IfOk d (λ v. (key : Key) → world_due engine v ≡ Some key → (now ≡ Ok (handled_among engine key v).sites) × (rows ≡ (handled_among engine key v).rows) × (sent ≡ (handled_among engine key v).sent))
          → IfOk (get_or parts p (Ok [])) (λ v. AreOfPast conditions v (world_due engine v))
          → old ≡ get_or kept.rows.items p old → new ≡ old ++ rows → waiting ≡ kept.waiting ++ sent
          → Took engine conditions (standing_of kept parts) (record (standing_of kept parts) { parts = set parts p now; rows = set kept.rows.items p new; waiting = waiting }) s done (Part p) true
      stepped now rows sent waiting old new handled past old_is new_is waits =
          let h : Here s done g p = here s done g st p some in
          let t : Stepped engine = handled_among engine h.key w in
          let due : world_due engine w ≡ Some h.key = due_is basics s done g st p h.within h.key h.ready_is in
          let made : (now ≡ Ok t.sites) × (rows ≡ t.rows) × (sent ≡ t.sent) =
          subst (λ (x : Result (List Site) Refusal). IfOk x (λ v. (key : Key) → world_due engine v ≡ Some key → (now ≡ Ok (handled_among engine key v).sites) × (rows ≡ (handled_among engine key v).rows) × (sent ≡ (handled_among engine key v).sent))) lives handled h.key due in
          let early : All (Past h.key.at) w = subst (AreOfPast conditions w) due (subst (λ (x : Result (List Site) Refusal). IfOk x (λ v. AreOfPast conditions v (world_due engine v))) (part_at basics s done g st p (Ok []) h.within) past) in
          let more : new ≡ get_or g.rows p [] ++ t.rows =
          new_is ∙ ap (λ z. z ++ rows) (old_is ∙ get_or_default g.rows p old [] many) ∙ ap (λ z. get_or g.rows p [] ++ z) made.1 in
          let after : Standing Site Row Transfer = record g { parts = set parts p now; rows = set g.rows p new; waiting = waiting } in
          let same : after ≡ stepped_by basics g p t =
          ap (λ (z : Result (List Site) Refusal). let x : Standing Site Row Transfer = record g { parts = set parts p z; rows = set g.rows p new; waiting = waiting } in x) made.0
          ∙ ap (λ (z : List (List Row)). let x : Standing Site Row Transfer = record g { parts = set parts p (Ok t.sites); rows = z; waiting = waiting } in x) (ap (set g.rows p) more)
          ∙ ap (λ z. let x : Standing Site Row Transfer = record g { parts = set parts p (Ok t.sites); rows = set g.rows p (get_or g.rows p [] ++ t.rows); waiting = z } in x) (waits ∙ ap (λ z. g.waiting ++ z) made.2) in
          record {
            stands = subst (Stands engine conditions s (done ++ Part p ∷ [])) (sym same) (steps basics s done g st p h.within h.key h.ready_is early);
            same = record { layout = refl; distances = refl };
            effect = sym (ap is_some (sym (ready_is basics s done g st p)) ∙ some);
            settled = refl;
          }

  -- a partition that has nothing to handle
  pub stays : (g : Standing Site Row Transfer) (p : ℕ) → ready_in engine g p ≡ None → Takes engine conditions g g (Part p) false
  stays g p none s done st = took_none basics s done g st p (sym (ready_is basics s done g st p) ∙ none)

  -- the least of the rows that are settled
  pub settled : (g h : Standing Site Row Transfer) (moment : ℕ) (rows : List Row) → moment ≡ lower_bound_in engine g → h ≡ settled_by engine g moment → rows ≡ merged_all (row_cmp engine) (map (filter (is_before engine moment)) g.rows) → Settles engine conditions g h rows
  settled g h moment rows at is told =
      record {
        follows = record {
          stands = λ s done st. subst (Stands engine conditions s (done ++ [])) (sym is) (subst (λ ps. Stands engine conditions s ps (settled_by engine g moment)) (sym (append-nil done)) (settles basics s done g st moment (at ∙ lower_bound_is basics s done g st)));
          same = record { layout = ap (λ (x : Standing Site Row Transfer). x.layout) is; distances = ap (λ (x : Standing Site Row Transfer). x.distances) is };
          count = ap (λ (x : Standing Site Row Transfer). length x.parts) is;
        };
        is = is ∙ ap (settled_by engine g) at;
        next = λ s on r whole.
            ap (λ z. filter (is_before engine g.settled) r.rows ++ z) told
            ∙ next_rows basics s on.picks g on.stands moment (at ∙ lower_bound_is basics s on.picks g on.stands) r whole
            ∙ ap (λ n. filter (is_before engine n) r.rows) (sym (ap (λ (x : Standing Site Row Transfer). x.settled) is));
      }

  -- a stage that follows one that stands, stands
  pub on : (g h : Standing Site Row Transfer) (more : List Pick) → Follows engine conditions g h more → IsStanding engine conditions g → IsStanding engine conditions h
  on g h more follows st = record { setting = st.setting; picks = st.picks ++ more; stands = follows.stands st.setting st.picks st.stands }

  -- where a partition may go on, or nothing is left, there is no barrier
  pub no_barrier : (g : Standing Site Row Transfer) → (is_some (next_in engine g) || is_finished_in engine g) ≡ true → Takes engine conditions g g Barrier false
  no_barrier g h s done st =
      let m : Machine engine = machine_at engine g s done in
      barrier_none basics s done g st
      (ap (λ b. b || is_finished engine s.horizon m) (sym (has_next basics s done g st)) ∙ ap (λ b. is_some (next_in engine g) || b) (sym (finished_is basics s done g st)) ∙ h)

  -- it takes effect where no partition may go on and something is left
  pub takes : (g : Standing Site Row Transfer) (s : Setting Site) (done : List Pick) → Stands engine conditions s done g → next_in engine g ≡ None → is_finished_in engine g ≡ false → takes_effect_in engine g s done Barrier ≡ true
  takes g s done st rests left =
      let m : Machine engine = machine_at engine g s done in
      ap (λ b. not (b || is_finished engine s.horizon m)) (sym (has_next basics s done g st) ∙ ap is_some rests)
      ∙ ap not (sym (finished_is basics s done g st) ∙ left)

  -- one after another
  pub both : (g h k : Standing Site Row Transfer) (more : List Pick) → Follows engine conditions g h [] → Follows engine conditions h k more → Follows engine conditions g k more
  both g h k more first second = record {
    stands = λ s done st. second.stands s done (subst (λ ps. Stands engine conditions s ps h) (append-nil done) (first.stands s done st));
    same = record { layout = second.same.layout ∙ first.same.layout; distances = second.same.distances ∙ first.same.distances };
    count = second.count ∙ first.count;
  }

  -- a barrier that takes effect once the rows of the round that it ends are settled
  pub barrier :
      (g h k : Standing Site Row Transfer) (rows : List Row) → next_in engine g ≡ None → is_finished_in engine g ≡ false → Settles engine conditions g h rows → Follows engine conditions h k (Barrier ∷ []) → k.settled ≡ h.settled
      → Takes engine conditions g k Barrier true
  barrier g h k rows rests left settles second kept s done st =
      let all : Follows engine conditions g k (Barrier ∷ []) = both g h k (Barrier ∷ []) settles.follows second in
      let m : Machine engine = machine_at engine g s done in
      let effect : takes_effect_in engine g s done Barrier ≡ true = takes g s done st rests left in
      record {
        stands = all.stands s done st;
        same = all.same;
        effect = sym effect;
        settled =
            kept ∙ ap (λ (x : Standing Site Row Transfer). x.settled) settles.is ∙ ap (up_to (end_in g)) rests ∙ end_is basics s done g st
            ∙ sym (ap (λ b. if b then least_bound s.horizon m.bounds g.layout.parts else g.settled) effect);
      }

  -- what is settled changes nothing that may be handled or is left
  pub rests_so : (g h : Standing Site Row Transfer) (rows : List Row) → Settles engine conditions g h rows → next_in engine g ≡ None → next_in engine h ≡ None
  rests_so g h rows settles rests = ap (next_in engine) settles.is ∙ rests

  pub left_so : (g h : Standing Site Row Transfer) (rows : List Row) → Settles engine conditions g h rows → is_finished_in engine g ≡ false → is_finished_in engine h ≡ false
  left_so g h rows settles left = ap (is_finished_in engine) settles.is ∙ left

  -- rows that are settled follow those before
  pub tells : (g h k : Standing Site Row Transfer) (told rows all : List Row) → Settles engine conditions g h rows → k.settled ≡ h.settled → all ≡ told ++ rows → Tells engine conditions g told k all
  tells g h k told rows all settles same is s on before r w =
      is ∙ ap (λ z. z ++ rows) (before r w) ∙ settles.next s on r w ∙ ap (λ n. filter (is_before engine n) r.rows) (sym same)

  -- where no more is settled, the rows are the same
  pub tells_same : (g h : Standing Site Row Transfer) (told : List Row) → h.settled ≡ g.settled → Tells engine conditions g told h told
  tells_same g h told same s on before r w = before r w ∙ ap (λ n. filter (is_before engine n) r.rows) (sym same)

  -- a barrier
  module _ (g d : Standing Site Row Transfer) (reached : (ws : List (List Site)) → g.parts ≡ map (λ w. Ok w) ws → d ≡ delivered_by engine g ws) where
    module _ (s : Setting Site) (done : List Pick) (st : Stands engine conditions s done g) where
      pub delivers : d ≡ delivered_by engine g (parts_in basics s done g st)
      delivers = reached (parts_in basics s done g st) (live basics s done g st)

      pub has_parts : length d.parts ≡ d.distances.parts
      has_parts = ap (λ (x : Standing Site Row Transfer). length x.parts) delivers ∙ many_delivered basics s done g st ∙ sym st.parts ∙ sym (ap (λ (x : Standing Site Row Transfer). x.distances.parts) delivers)

      pub few_parts : d.distances.parts ≤ 256
      few_parts = let few : g.layout.parts ≤ 256 = st.layout.most in omega (arith, ap (λ (x : Standing Site Row Transfer). x.distances.parts) delivers, st.parts)

      pub short : d.horizon ≤ most_count
      short = omega (arith, ap (λ (x : Standing Site Row Transfer). x.horizon) delivers, st.range)

      meets_there : (h : Standing Site Row Transfer) → h ≡ bounded_by d (bounds_by engine d.distances d.horizon d.parts) → next_in engine g ≡ None → is_finished_in engine g ≡ false → Stands engine conditions s (done ++ Barrier ∷ []) h
      meets_there h is rests left =
          let k : Standing Site Row Transfer = delivered_by engine g (parts_in basics s done g st) in
          let bounds : List ℕ = bounds_by engine g.distances g.horizon k.parts in
          let whole : h ≡ bounded_by k bounds = is ∙ ap (λ (x : Standing Site Row Transfer). bounded_by x (bounds_by engine x.distances x.horizon x.parts)) delivers in
          subst (Stands engine conditions s (done ++ Barrier ∷ [])) (sym whole)
          (meets basics s done g st (sym (has_next basics s done g st) ∙ ap is_some rests) (sym (finished_is basics s done g st) ∙ left) bounds
          (bounds_in basics s done g st g.distances.parts st.parts bounds (ap (λ n. bounds_by engine g.distances n k.parts) st.horizon)))

    less_there : (s : Setting Site) (done : List Pick) (st : Stands engine conditions s done g) (h : Standing Site Row Transfer) → h ≡ bounded_by d (bounds_by engine d.distances d.horizon d.parts) → next_in engine g ≡ None → is_finished_in engine g ≡ false → left_in engine h < left_in engine g
    less_there s done st h is rests left =
        let k : Standing Site Row Transfer = delivered_by engine g (parts_in basics s done g st) in
        let bounds : List ℕ = bounds_by engine g.distances g.horizon k.parts in
        let whole : h ≡ bounded_by k bounds = is ∙ ap (λ (x : Standing Site Row Transfer). bounded_by x (bounds_by engine x.distances x.horizon x.parts)) (delivers s done st) in
        subst (λ (x : Standing Site Row Transfer). left_in engine x < left_in engine g) (sym whole)
        (barrier_less basics s done g st rests left bounds (bounds_in basics s done g st g.distances.parts st.parts bounds (ap (λ n. bounds_by engine g.distances n k.parts) st.horizon)))

    pub met :
        (h : Standing Site Row Transfer) → h ≡ bounded_by d (bounds_by engine d.distances d.horizon d.parts) → next_in engine g ≡ None → is_finished_in engine g ≡ false → IsStanding engine conditions g
        → Follows engine conditions g h (Barrier ∷ []) × (h.settled ≡ g.settled) × (left_in engine h < left_in engine g)
    met h is rests left st =
        let e : d ≡ delivered_by engine g (parts_in basics st.setting st.picks g st.stands) = delivers st.setting st.picks st.stands in (
          record {
            stands = λ s done on. meets_there s done on h is rests left;
            same = record {
              layout = ap (λ (x : Standing Site Row Transfer). x.layout) is ∙ ap (λ (x : Standing Site Row Transfer). x.layout) e;
              distances = ap (λ (x : Standing Site Row Transfer). x.distances) is ∙ ap (λ (x : Standing Site Row Transfer). x.distances) e;
            };
            count =
                ap (λ (x : Standing Site Row Transfer). length x.parts) is ∙ ap (λ (x : Standing Site Row Transfer). length x.parts) e
                ∙ many_delivered basics st.setting st.picks g st.stands ∙ sym (many_parts basics st.setting st.picks g st.stands);
          },
          ap (λ (x : Standing Site Row Transfer). x.settled) is ∙ ap (λ (x : Standing Site Row Transfer). x.settled) e,
          less_there st.setting st.picks st.stands h is rests left,
        )

  -- the same, where the one is seen as another
  pub meets_so :
      (g k d h : Standing Site Row Transfer) → k ≡ g → ((ws : List (List Site)) → k.parts ≡ map (λ w. Ok w) ws → d ≡ delivered_by engine k ws) → h ≡ bounded_by d (bounds_by engine d.distances d.horizon d.parts)
      → next_in engine g ≡ None → is_finished_in engine g ≡ false → IsStanding engine conditions k
      → IsStanding engine conditions h × Follows engine conditions g h (Barrier ∷ []) × (h.settled ≡ g.settled) × (left_in engine h < left_in engine g)
  meets_so g k d h e reached is rests left st =
      let m = met k d reached h is (ap (next_in engine) e ∙ rests) (ap (is_finished_in engine) e ∙ left) st in (
        on k h (Barrier ∷ []) m.0 st,
        subst (λ (x : Standing Site Row Transfer). Follows engine conditions x h (Barrier ∷ [])) e m.0,
        m.1 ∙ ap (λ (x : Standing Site Row Transfer). x.settled) e,
        subst (λ (x : Standing Site Row Transfer). left_in engine h < left_in engine x) e m.2,
      )
