-- The rows from before a moment are ones that a scenario's run begins with.
use Rattle.std.specs.Prelude.{List, [], filter, true, ℕ, ◌++◌, ◌≡◌}
use Rattle.std.proofs.Common.{ap, append_assoc, inl, inr, subst, sym, ◌∙◌}
use Rattle.std.proofs.lemmas.List.{append-nil}
use Rattle.sim_clock.specs.declared.refusal.Refusal.{Refusal}
use Rattle.sim_clock.specs.declared.refusal.Refusal.TheVariants as refusals
use Rattle.sim_exchange.specs.Layout.{owner_of}
use Rattle.sim_exchange.specs.Table.{distance_in}
use Rattle.sim_engine.specs.Bounds.{own_bound}
use Rattle.sim_engine.specs.Machine.{is_finished}
use Rattle.sim_engine.specs.Prefixes.{Holds, is_before, rows_from}
use Rattle.sim_engine.specs.Theorems.{machine_of}
use Rattle.sim_engine.specs.declared.picks.Pick.{Pick}
use Rattle.sim_workers.specs.Runs.{HasTold, StopsNext, TellsNext}
use Rattle.sim_engine.specs.Limits.{IsOver, StopsWhere}
use Rattle.sim_windows.specs.Stages.{AreNext, Standing, Stands, StandsOn}
use Rattle.sim_windows.proofs.Beginning.{none_before_zero}
use Rattle.sim_windows.proofs.Standing.{below}
use Rattle.sim_windows.specs.Sinks.{HasStopped, IsPrefixOfRun, StopsAt}
use Rattle.sim_engine.specs.Setting.{IsRunOf, Setting}
use Rattle.sim_engine.specs.World.{Run}
use Rattle.sim_engine.specs.Setting.{Setting}
use Rattle.sim_engine.specs.Engine.{Engine}
use Rattle.sim_engine.specs.Laws.{Conditions, SiteLaws}

module _ {Site Row Transfer : Type 0} {engine : Engine Site Row Transfer} {conditions : Conditions Site Transfer} (basics : SiteLaws engine conditions) where
  module _ (s : Setting Site) (done : List Pick) (g : Standing Site Row Transfer) (st : Stands engine conditions s done g) where
    abbrev pub rule : List Site → ℕ → ℕ
    rule = own_bound engine (owner_of g.layout) (distance_in g.distances) g.layout.parts s.horizon

    -- some picks that come to the end
    abbrev pub end : (picks : List Pick) × (is_finished engine s.horizon (machine_of engine (owner_of g.layout) rule s picks) ≡ true)
    end = st.sound.ends (owner_of g.layout) g.layout.parts (below basics s done g st) (distance_in g.distances) st.distances []

    abbrev pub rest : ℕ → List Row
    rest moment = rows_from engine g.layout.parts moment (machine_of engine (owner_of g.layout) rule s end.0)

    holds : Holds engine s (owner_of g.layout) g.layout.parts rule
    holds = st.sound.holds (owner_of g.layout) g.layout.parts (below basics s done g st) (distance_in g.distances) st.distances

    -- all rows, from a moment on after those from before it
    pub all_rows : (moment : ℕ) (r : Run engine) → IsRunOf engine s r → filter (is_before engine moment) r.rows ++ rest moment ≡ r.rows
    all_rows moment r w = holds.last end.0 moment r w end.1

    pub whole : (r : Run engine) → IsRunOf engine s r → r.rows ≡ rest 0
    whole r w = sym (all_rows 0 r w) ∙ ap (λ z. z ++ rest 0) (none_before_zero basics r.rows)

    -- each run begins with them
    pub prefix : (moment : ℕ) (r : Run engine) → IsRunOf engine s r → IsPrefixOfRun engine s (filter (is_before engine moment) r.rows)
    prefix moment r w x v = (rest moment, ap (λ z. filter (is_before engine moment) z ++ rest moment) (whole r w ∙ sym (whole x v)) ∙ all_rows moment x v)

    -- and with all of its own
    pub whole_prefix : (r : Run engine) → IsRunOf engine s r → IsPrefixOfRun engine s r.rows
    whole_prefix r w x v = ([], append-nil r.rows ∙ whole r w ∙ sym (whole x v))

  -- a sink that took what was settled, where a run stops
  module _ {K : Type 0} (took : K → List Row → K → Type 0) (broke : K → List Row → Refusal → K → Type 0) (s : Setting Site) (g : Standing Site Row Transfer) (on : StandsOn engine conditions s g) (moment : ℕ) (before now : K) (told : HasTold engine took s moment before now) where
    some_run : (r : Run engine) × IsRunOf engine s r
    some_run = (on.stands.sound.run, on.stands.sound.is_run)

    -- for a reason of its own
    pub stops_so : (e : Refusal) → StopsWhere (IsOver engine s) e → HasStopped engine took broke s before e now
    stops_so e h =
        record {
          rows = filter (is_before engine moment) some_run.0.rows;
          prefix = prefix s on.picks g on.stands moment some_run.0 some_run.1;
          at_rows = inl (told some_run.0 some_run.1, h);
        }

    module _ (broke_later : (a b c : K) (xs ys : List Row) (e : Refusal) → took a xs b → broke b ys e c → broke a (xs ++ ys) e c) (rows : List Row) (e : Refusal) (after : K) (broken : broke now rows e after) where
      -- since the sink broke at the rest
      pub breaks_last : (r : Run engine) → IsRunOf engine s r → filter (is_before engine moment) r.rows ++ rows ≡ r.rows → HasStopped engine took broke s before e after
      breaks_last r w is =
          record {
            rows = r.rows;
            prefix = whole_prefix s on.picks g on.stands r w;
            at_rows = inr (subst (λ xs. broke before xs e after) is (broke_later before now after (filter (is_before engine moment) r.rows) rows e (told r w) broken));
          }

  -- a sink that took what was settled
  module _ {K : Type 0} (took : K → List Row → K → Type 0) (took_both : (a b c : K) (xs ys : List Row) → took a xs b → took b ys c → took a (xs ++ ys) c) (s : Setting Site) (g : Standing Site Row Transfer) (on : StandsOn engine conditions s g) (before now : K) (told : HasTold engine took s g.settled before now) where
    -- and what is settled next
    next_told : (to : ℕ) (rows : List Row) (after : K) → AreNext engine s g.settled to rows → took now rows after → HasTold engine took s to before after
    next_told to rows after next taken r w = subst (λ xs. took before xs after) (next r w) (took_both before now after (filter (is_before engine g.settled) r.rows) rows (told r w) taken)

    pub told_next : (h : Standing Site Row Transfer) (after : K) → TellsNext engine conditions took g now h after → HasTold engine took s h.settled before after
    told_next h after tells = let next = tells s on in next_told h.settled next.0 after next.1.0 next.1.1

    -- or at which the run stops
    module _ (broke : K → List Row → Refusal → K → Type 0) (broke_later : (a b c : K) (xs ys : List Row) (e : Refusal) → took a xs b → broke b ys e c → broke a (xs ++ ys) e c) (e : Refusal) (after : K) where
      abbrev pub run : Run engine
      run = on.stands.sound.run

      is : IsRunOf engine s run
      is = on.stands.sound.is_run

      abbrev pub first : List Row
      first = filter (is_before engine g.settled) run.rows

      still_prefix : (to : ℕ) (all rows rest : List Row) → AreNext engine s g.settled to all → rows ++ rest ≡ all → IsPrefixOfRun engine s (first ++ rows)
      still_prefix to all rows rest next parts x v =
          let whole = prefix s on.picks g on.stands to run is x v in
          (rest ++ whole.0, sym (append_assoc (first ++ rows) rest whole.0) ∙ ap (λ z. z ++ whole.0) (append_assoc first rows rest ∙ ap (λ z. first ++ z) parts ∙ next run is) ∙ whole.1)

      at : (rows : List Row) → StopsAt engine took broke (StopsWhere (IsOver engine s)) rows now e after → StopsAt engine took broke (StopsWhere (IsOver engine s)) (first ++ rows) before e after
      at rows (inl (taken, h)) = inl (took_both before now after first rows (told run is) taken, h)
      at rows (inr broken) = inr (broke_later before now after first rows e (told run is) broken)

      pub stopped_next : StopsNext engine conditions took broke g now e after → HasStopped engine took broke s before e after
      stopped_next stops =
          let found = stops s on in
          let among = found.1.1.1 in
          record { rows = first ++ among.0; prefix = still_prefix found.0 found.1.0 among.0 among.1.0 found.1.1.0 among.1.1.0; at_rows = at among.0 among.1.1.1 }

  -- out of memory is a reason
  pub memory_stops : (s : Setting Site) (e : Refusal) → e ≡ refusals.Memory → StopsWhere (IsOver engine s) e
  memory_stops s e h = subst (StopsWhere (IsOver engine s)) (sym h) tt
