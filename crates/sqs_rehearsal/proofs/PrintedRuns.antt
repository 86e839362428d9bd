-- What comes of a run whose rows are printed comes of the run.
use Rattle.std.specs.Prelude.{List, [], false, map, ℕ, ◌∷◌, ◌≡◌, ◌≤◌}
use Rattle.std.proofs.Math.Nat.{max-le}
use Rattle.std.proofs.Common.{ap, append-nil, inl, inr, refl, subst, sym, ◌∙◌}
use Rattle.sim_clock.specs.declared.refusal.Refusal.{Refusal}
use Rattle.sim_clock.specs.declared.refusal.Refusal.TheVariants as refusals
use Rattle.sim_records.specs.Writes.{WriterState}
use Rattle.sim_engine.proofs.Counted.{not_over}
use Rattle.sim_engine.proofs.Mapping.{mapped_simulated, runs_are_mapped}
use Rattle.sim_engine.specs.Limits.{IsOver as IsPast, StopsWhere}
use Rattle.sim_engine.specs.Mapping.{MappedSite, RunsAreMapped, mapped_conditions, mapped_run, mapped_setting, with_mapper}
use Rattle.sim_engine.specs.Setting.{IsRunOf as IsTheRunOf, Setting}
use Rattle.sim_engine.specs.Simulated.{IsSimulated}
use Rattle.sim_engine.specs.World.{Run as TheRun}
use Rattle.sim_windows.specs.Sinks.{HasStopped, HasTaken, StopsAt}
use Rattle.sim_workers.specs.Runs.{StopsAnyhow}
use Rattle.sqs_model.proofs.Growth.{handled_up}
use Rattle.sqs_model.proofs.Instance.{sqs_laws}
use Rattle.sqs_model.proofs.Sites.{IsFine, sound_setting}
use Rattle.sqs_model.specs.Answers.{most_count}
use Rattle.sqs_model.specs.Conditions.{sqs_conditions}
use Rattle.sqs_model.specs.Limits.{IsOver, sites_count}
use Rattle.sqs_model.specs.Run.{IsRunOf, Run, setting_of}
use Rattle.sqs_model.specs.Progress.{IsSoundScenario}
use Rattle.sqs_model.specs.Scenario.{Scenario, edges, sources}
use Rattle.sqs_model.specs.Site.{Site}
use Rattle.sqs_model.specs.Sqs.{sqs}
use Rattle.sqs_model.specs.Ways.{FitsWays, Leads, home_of}
use Rattle.sqs_rehearsal.proofs.Counting.{fewer_first, past_by}
use Rattle.sqs_rehearsal.proofs.Runs.{one_run}
use Rattle.sqs_rehearsal.specs.Limited.{Passed}
use Rattle.sqs_rehearsal.specs.Printed.{BrokeCounted, BrokePrinted, TookCounted, TookPrinted, printed, printed_keeps, printed_sqs, row_mapping}
use Rattle.sqs_rehearsal.specs.PrintedLaws.{Parts, parts_of}
use Rattle.sqs_rehearsal.specs.Sinks.{Recorded, StoppedAt}
use Rattle.sqs_rehearsal.specs.declared.recorder.Recorder.{Recorder}

-- a site whose rows are printed by names
abbrev pub PrintedSite : Type 0
PrintedSite = MappedSite Site (List (List ℕ))

-- sites without their printers
abbrev pub plain_sites : List PrintedSite → List Site
plain_sites sites = map (λ s. s.site) sites

plain_again : (names : List (List ℕ)) (w : List Site) → plain_sites (map (with_mapper names) w) ≡ w
plain_again names [] = refl
plain_again names (s ∷ ss) = ap (λ xs. s ∷ xs) (plain_again names ss)

-- a reason to stop that holds where another one does
stops_for : (L M : Type 0) (e : Refusal) → (L → M) → StopsWhere L e → StopsWhere M e
stops_for L M refusals.CountLimit f h = f h
stops_for L M refusals.Memory f h = tt
stops_for L M e f h = h

module _ {W P : Type 0} (state : W → WriterState) (s : Scenario) (before now : Recorder W P) where
  -- the names by which rows are printed, and the run of the scenario with them
  abbrev names : List (List ℕ)
  names = before.names.now

  abbrev pub printed_setting : Setting PrintedSite
  printed_setting = mapped_setting names (setting_of s)

  are_mapped : RunsAreMapped sqs row_mapping names (setting_of s)
  are_mapped = runs_are_mapped sqs row_mapping names printed_keeps (setting_of s)

  -- what a recorder took of the run of the scenario, and why this stops
  abbrev pub Taken : List Site → Type 0
  Taken sites = HasTaken sqs (TookCounted state) (setting_of s) before now sites

  abbrev Halted : Refusal → Type 0
  Halted e = HasStopped sqs (TookCounted state) (BrokeCounted state) (setting_of s) before e now

  abbrev works : Recorder W P → Type 0
  works recorder = (state recorder.out.now).failed ≡ false

  abbrev pub Stops : Refusal → Type 0
  Stops e = StopsAnyhow sqs works (TookCounted state) (BrokeCounted state) (setting_of s) before e now

  -- the same of the printed rows
  abbrev pub TakenPrinted : List PrintedSite → Type 0
  TakenPrinted sites = HasTaken printed_sqs (TookPrinted state) printed_setting before now sites

  abbrev pub StopsPrinted : Refusal → Type 0
  StopsPrinted e = StopsAnyhow printed_sqs works (TookPrinted state) (BrokePrinted state) printed_setting before e now

  taken : (sites : List PrintedSite) → TakenPrinted sites → Taken (plain_sites sites)
  taken sites h =
      let run = are_mapped.back h.run h.is in
      let r : Run = run.0 in
      let same : h.run ≡ mapped_run sqs row_mapping names r = run.1.1 in
      record {
        run = r;
        is = run.1.0;
        taken = h.taken r.rows (ap (λ (x : TheRun printed_sqs). x.rows) same);
        sites_are = ap plain_sites h.sites_are ∙ ap (λ (x : TheRun printed_sqs). plain_sites x.sites) same ∙ plain_again names r.sites;
      }

  halted : (r : Run) → IsRunOf s r → (e : Refusal) → HasStopped printed_sqs (TookPrinted state) (BrokePrinted state) printed_setting before e now → Halted e
  halted r is e h =
      let rest = h.prefix (mapped_run sqs row_mapping names r) (are_mapped.there r is) in
      let p : Parts (printed names) h.rows rest.0 r.rows = parts_of (printed names) h.rows rest.0 r.rows rest.1 in
      record {
        rows = p.first;
        prefix = λ x also. (p.others, p.joined ∙ ap (λ (y : Run). y.rows) (one_run s r x is also));
        at_rows =
            elim h.at_rows as (λ _. StopsAt sqs (TookCounted state) (BrokeCounted state) (StopsWhere (IsPast sqs (setting_of s))) p.first before e now) [
              | inl t ↦ inl (t.0 p.first p.first_is, stops_for (IsPast printed_sqs printed_setting) (IsPast sqs (setting_of s)) e are_mapped.over t.1)
              | inr b ↦ inr (b p.first p.first_is)
            ];
      }

  stops : (r : Run) → IsRunOf s r → (e : Refusal) → StopsPrinted e → Stops e
  stops r is e h =
      elim h as (λ _. Stops e) [
        | inl k ↦ inl (halted r is e k)
        | inr n ↦ inr (n.0, n.1 [] refl)
      ]

  -- a run that was taken whole, after which memory was wanting
  wanting : (sites : List Site) → Taken sites → Stops refusals.Memory
  wanting sites h =
      inl (record {
        rows = h.run.rows;
        prefix = λ x also. ([], append-nil h.run.rows ∙ ap (λ (y : Run). y.rows) (one_run s h.run x h.is also));
        at_rows = inl (h.taken, tt);
      })

  -- rows whose counts were looked at were taken
  pub recorded : (sites : List Site) → Taken sites → HasTaken sqs (Recorded state) (setting_of s) before now sites
  recorded sites h = record { run = h.run; is = h.is; taken = h.taken.taken; sites_are = h.sites_are }

  -- a whole run whose rows were looked at, and whose last sites are within the limit, is within it
  pub never_over : (sites : List Site) → Taken sites → sites_count sites ≤ most_count → IsOver s → ⊥
  never_over sites h most =
      not_over sqs handled_up sqs_laws.kept_core (setting_of s) h.run h.is (max-le (subst (λ (xs : List Site). sites_count xs ≤ most_count) h.sites_are most) h.taken.within)

  -- why a run stops, if not at a count past the limit among its rows
  abbrev Unrecorded : Refusal → Type 0
  Unrecorded e = HasStopped sqs (Recorded state) (StoppedAt state) (setting_of s) before e now

  unrecorded : (r : Run) → IsRunOf s r → (e : Refusal) → Halted e → Unrecorded e
  unrecorded r is e h =
      let passed : Passed (Recorded state) before h.rows e now → Unrecorded e = λ p.
      record {
        rows = p.prefix;
        prefix = fewer_first (setting_of s) p.prefix p.rest h.rows p.rows_are h.prefix;
        at_rows = inl (p.taken, subst (StopsWhere (IsPast sqs (setting_of s))) (sym p.limit) (past_by (setting_of s) r is h.rows h.prefix p.past));
      } in
      elim h.at_rows as (λ _. Unrecorded e) [
        | inl t ↦ record { rows = h.rows; prefix = h.prefix; at_rows = inl (t.0.taken, t.1) }
        | inr b ↦ elim b as (λ _. Unrecorded e) [ inl k ↦ record { rows = h.rows; prefix = h.prefix; at_rows = inr k } | inr p ↦ passed p ]
      ]

  -- the world of the run with printed rows, and what comes of it
  module _ (world : Setting PrintedSite) (is : world ≡ printed_setting) where
    pub taken_plain : (made : List PrintedSite) (sites : List Site) → sites ≡ plain_sites made → HasTaken printed_sqs (TookPrinted state) world before now made → Taken sites
    taken_plain made sites plain took =
        subst Taken (sym plain) (taken made (subst (λ (w : Setting PrintedSite). HasTaken printed_sqs (TookPrinted state) w before now made) is took))

    module _ (simulated : IsSimulated printed_sqs (mapped_conditions sqs_conditions) world) where
      its_run : (r : Run) × IsRunOf s r
      its_run =
          let run = are_mapped.back simulated.run (subst (λ (w : Setting PrintedSite). IsTheRunOf printed_sqs w simulated.run) is simulated.is_run) in
          (run.0, run.1.0)

      unrecorded_anyhow : (e : Refusal) → Stops e → StopsAnyhow sqs works (Recorded state) (StoppedAt state) (setting_of s) before e now
      unrecorded_anyhow e h =
          elim h as (λ _. StopsAnyhow sqs works (Recorded state) (StoppedAt state) (setting_of s) before e now) [
            | inl k ↦ inl (unrecorded its_run.0 its_run.1 e k)
            | inr n ↦ inr (n.0, n.1.taken)
          ]

      pub stops_plain : (e : Refusal) → StopsAnyhow printed_sqs works (TookPrinted state) (BrokePrinted state) world before e now → StopsAnyhow sqs works (Recorded state) (StoppedAt state) (setting_of s) before e now
      stops_plain e h =
          unrecorded_anyhow e
          (stops its_run.0 its_run.1 e (subst (λ (w : Setting PrintedSite). StopsAnyhow printed_sqs works (TookPrinted state) (BrokePrinted state) w before e now) is h))

      -- memory was wanting after it
      pub wants_plain : (made : List PrintedSite) → HasTaken printed_sqs (TookPrinted state) world before now made → StopsAnyhow sqs works (Recorded state) (StoppedAt state) (setting_of s) before refusals.Memory now
      wants_plain made took = unrecorded_anyhow refusals.Memory (wanting (plain_sites made) (taken_plain made (plain_sites made) refl took))

-- the parts of a world, with printers, are those of the world with printers
pub made_of : (names : List (List ℕ)) (s w : Setting Site) (horizon : ℕ) (made : List PrintedSite)
    → w ≡ s → horizon ≡ s.horizon → made ≡ map (with_mapper names) w.opening → record { horizon = horizon; opening = made; edges = w.edges } ≡ mapped_setting names s
made_of names s w horizon made same at are = λ k.
    record { horizon = at k; opening = (are ∙ ap (λ (x : Setting Site). map (with_mapper names) x.opening) same) k; edges = (ap (λ (x : Setting Site). x.edges) same) k }

-- a scenario in which time moves on is simulated with printed rows
pub printed_simulated : (names : List (List ℕ)) (s : Scenario) → IsSoundScenario s → IsSimulated printed_sqs (mapped_conditions sqs_conditions) (mapped_setting names (setting_of s))
printed_simulated names s sound =
    mapped_simulated row_mapping printed_keeps (home_of s) (IsFine (edges s) (home_of s) (sources s)) (FitsWays (Leads s)) sqs_laws names (setting_of s) (sound_setting s sound)
