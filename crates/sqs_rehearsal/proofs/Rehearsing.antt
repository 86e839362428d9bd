-- What comes of the steps of a rehearsal.
use Rattle.std.specs.Arc.{arc_value}
use Rattle.std.specs.Prelude.{◌++◌, ◌<◌}
use Rattle.std.proofs.Common.{◌≡◌, ◌∙◌, [], ℕ, Err, List, None, Ok, ap, append-nil, false, inl, inr, map, subst, sym, true}
use Rattle.std.proofs.lemmas.Grind.{flat_map-append}
use Rattle.std.proofs.lemmas.List.{map-append}
use Rattle.std.specs.Io.KnownBytes.{Appends}
use Rattle.csv.proofs.WriteFacts.{appends-more}
use Rattle.sim_clock.specs.declared.refusal.Refusal.{Refusal}
use Rattle.sim_records.proofs.Writes.{prefix_of_first, prefix_of_second, several-one, several_after, several_stopped}
use Rattle.sim_records.specs.Writes.{AppendsPrefix, WriterState, Wrote, WroteSeveral}
use Rattle.sim_scenario.specs.Ranges.{IsInRange}
use Rattle.sim_windows.specs.Sinks.{HasStopped, HasTaken}
use Rattle.sim_workers.specs.Runs.{StopsAnyhow}
use Rattle.sqs_formats.specs.Output.{log_of}
use Rattle.sqs_formats.specs.Rows.{line, lines, log_header, row_fields}
use Rattle.sqs_message.specs.declared.row.Row.{Row}
use Rattle.sqs_model.specs.Limits.{IsOver}
use Rattle.sqs_model.specs.Run.{IsRunOf, Run, setting_of}
use Rattle.sqs_model.specs.Scenario.{Scenario}
use Rattle.sqs_model.specs.Sqs.{sqs}
use Rattle.sqs_rehearsal.proofs.Barred.{split_bars}
use Rattle.sqs_rehearsal.proofs.Prefixes.{all_are_prefix}
use Rattle.sqs_rehearsal.proofs.Runs.{rehearsed, some_run}
use Rattle.sqs_rehearsal.proofs.Stopped.{refused_after_log, refused_barred, stopped_unwritten, stopped_where}
use Rattle.sqs_rehearsal.specs.Asked.{asked_of}
use Rattle.sqs_rehearsal.specs.Endings.{ending_with}
use Rattle.sqs_rehearsal.specs.Options.{Options, split_fault}
use Rattle.sqs_rehearsal.specs.Splits.{IsUnsplit}
use Rattle.sqs_rehearsal.specs.Rehearsals.{IsRefused, IsWritten, Rehearsed, Request}
use Rattle.sqs_rehearsal.specs.Sinks.{IsSame, Recorded, StoppedAt}
use Rattle.sqs_rehearsal.specs.Steps.{Asks, IsBegun, IsLogged, StopsEarly, since}
use Rattle.sqs_rehearsal.specs.Writers.{Got, GotNothing, Writer}
use Rattle.sqs_rehearsal.specs.declared.recorder.Recorder.{Recorder}
use Rattle.sqs_rehearsal.specs.declared.rehearsal.Fault.TheVariants as faults
use Rattle.sqs_rehearsal.specs.declared.steps.Begun.{Begun}
use Rattle.sqs_rehearsal.specs.declared.steps.Ended.{Ended}

-- the lines of some first rows, and then those of the others
lines_joined : (names : List (List ℕ)) (xs ys zs : List Row) → xs ++ ys ≡ zs
    → lines (map (row_fields names) xs) ++ lines (map (row_fields names) ys) ≡ lines (map (row_fields names) zs)
lines_joined names xs ys zs e =
    sym (flat_map-append line (map (row_fields names) xs) (map (row_fields names) ys))
    ∙ ap lines (sym (map-append (row_fields names) xs ys))
    ∙ ap (λ (rows : List Row). lines (map (row_fields names) rows)) e

module _ (q : Request) (s : Scenario) (o : Options) (asks : Asks q s o) where
  -- it can't be split as asked
  pub stops_unsplit : (log : Writer) (e : Refusal) → IsUnsplit s o e → GotNothing log → StopsEarly q log e
  stops_unsplit log e unsplit nothing report none =
      refused_barred q log report (faults.Refused e)
      (split_bars q (record { scenario = s; stated = asks.stated }) e (subst (λ (y : Options). IsUnsplit s y e) (sym asks.options) unsplit))
      (record { no_log = nothing; no_report = none })

  module _ (range : IsInRange s) (allowed : split_fault s o ≡ None) where
    -- it, with its run
    abbrev with_run : (r : Run) → IsRunOf s r → Rehearsed q
    with_run r is = rehearsed q (record { scenario = s; stated = asks.stated }) range (subst (λ (y : Options). split_fault s y ≡ None) (sym asks.options) allowed) r is

    -- the header could not be written
    pub stops_headless : (log : Writer) (e : Refusal) → Wrote log.before log.after (line log_header) (Err e) → StopsEarly q log e
    stops_headless log e wrote =
        let run : (r : Run) × IsRunOf s r = some_run s range in
        let rows = lines (map (row_fields s.names) (run.0).rows) in
        stopped_unwritten q (with_run run.0 run.1) log e
        (several_stopped log.before log.after (line log_header) rows e (several-one log.before log.after (line log_header) (Err e) wrote))

module _ {L P : Type 0} (state : L → WriterState) where
  -- why a run with a recorder stops
  abbrev pub StopsRecorded : Scenario → Recorder L P → Refusal → Recorder L P → Type 0
  StopsRecorded s before e after = StopsAnyhow sqs (λ recorder. (state recorder.out.now).failed ≡ false) (Recorded state) (StoppedAt state) (setting_of s) before e after

  -- its writer and its report are the same then
  pub stops_same : (s : Scenario) (before after : Recorder L P) (e : Refusal) → StopsRecorded s before e after → IsSame before after
  stops_same s before after e (inr p) = p.1.same
  stops_same s before after e (inl p) =
      elim p.at_rows as (λ _. IsSame before after) [
        | inl took ↦ took.0.same
        | inr broke ↦ broke.same
      ]

  module _ (q : Request) (s : Scenario) (start : WriterState) (begun : Begun) (log : L) (begins : IsBegun q s (since start (state log)) begun)
      (before after : Recorder L P) (names : before.names.now ≡ arc_value begun.names) (same_log : before.out.now ≡ log) where
    is_begun : IsBegun q s (since start (state before.out.now)) begun
    is_begun = subst (λ (x : L). IsBegun q s (since start (state x)) begun) (sym same_log) begins

    range : IsInRange s
    range = is_begun.range

    abbrev old : WriterState
    old = state before.out.now

    abbrev new : WriterState
    new = state after.out.now

    abbrev of_run : (r : Run) → IsRunOf s r → Rehearsed q
    of_run r is = with_run q s q.options is_begun.asked range is_begun.allowed r is

    named : before.names.now ≡ s.names
    named = names ∙ is_begun.names

    -- a recorder took all rows of a run
    pub logs_whole : before.report.now ≡ begun.counts → (ended : Ended) → HasTaken sqs (Recorded state) (setting_of s) before after ended.sites.items → ¬ IsOver s
        → ended.names ≡ begun.names → ended.counts ≡ after.report.now → IsLogged q (since start new) ended
    logs_whole fresh ended p not_over same counted =
        let rows : Appends old.held new.held (lines (map (row_fields s.names) p.run.rows)) =
        subst (λ (n : List (List ℕ)). Appends old.held new.held (lines (map (row_fields n) p.run.rows))) named p.taken.written in
        record {
          of = of_run p.run p.is;
          not_over = not_over;
          whole_log =
              record {
                bytes = appends-more start.held old.held new.held (line log_header) (lines (map (row_fields s.names) p.run.rows)) is_begun.header.bytes rows;
                whole = p.taken.works is_begun.header.whole;
              };
          names = ap arc_value same ∙ is_begun.names;
          counts = counted ∙ p.taken.added (asked_of s q.options.figures) [] (fresh ∙ is_begun.counts);
          sites = p.sites_are;
        }

    -- a recorder took some first rows of a run, and then the run stopped
    pub logs_prefix : (e : Refusal) → HasStopped sqs (Recorded state) (StoppedAt state) (setting_of s) before e after → StopsEarly q (since start new) e
    logs_prefix e p =
        let run : (r : Run) × IsRunOf s r = some_run s range in
        let rest = p.prefix run.0 run.1 in
        let some : List ℕ = lines (map (row_fields s.names) p.rows) in
        let others : List ℕ = lines (map (row_fields s.names) rest.0) in
        let joined : line log_header ++ (some ++ others) ≡ log_of s run.0 = ap (λ (t : List ℕ). line log_header ++ t) (lines_joined s.names p.rows rest.0 (run.0).rows rest.1) in
        elim p.at_rows as (λ _. StopsEarly q (since start new) e) [
          | inl took ↦
              let bytes : Appends old.held new.held some = subst (λ (n : List (List ℕ)). Appends old.held new.held (lines (map (row_fields n) p.rows))) named took.0.written in
              let part : AppendsPrefix old.held new.held (some ++ others) = prefix_of_first old.held new.held some others (all_are_prefix old.held new.held some bytes) in
              let all : AppendsPrefix start.held new.held (line log_header ++ (some ++ others)) = prefix_of_second start.held old.held new.held (line log_header) (some ++ others) is_begun.header.bytes part in
              stopped_where q (of_run run.0 run.1) (since start new) e took.1
              (record { bytes = subst (λ (t : List ℕ). AppendsPrefix start.held new.held t) joined all; fails = took.0.works is_begun.header.whole })
          | inr broke ↦
              let bytes : WroteSeveral old new some (Err e) = subst (λ (n : List (List ℕ)). WroteSeveral old new (lines (map (row_fields n) p.rows)) (Err e)) named broke.written in
              let all : WroteSeveral start new (line log_header ++ (some ++ others)) (Err e) = several_after start old new (line log_header) (some ++ others) (Err e) is_begun.header.bytes (several_stopped old new some others e bytes) in
              stopped_unwritten q (of_run run.0 run.1) (since start new) e (subst (λ (t : List ℕ). WroteSeveral start new t (Err e)) joined all)
        ]

    -- a run of several workers stopped, or one could not be started
    pub logs_anyhow : (e : Refusal) → 1 < q.options.workers → StopsRecorded s before e after → StopsEarly q (since start new) e
    logs_anyhow e several (inl p) = logs_prefix e p
    logs_anyhow e several (inr p) = λ report none.
        let run : (r : Run) × IsRunOf s r = some_run s range in
        let bytes : Appends start.held new.held (line log_header) =
        subst (λ (t : List ℕ). Appends start.held new.held t) (append-nil (line log_header)) (appends-more start.held old.held new.held (line log_header) [] is_begun.header.bytes p.1.written) in
        rw p.0 (record { of = of_run run.0 run.1; several = several; header = record { bytes = bytes; whole = p.1.works is_begun.header.whole }; no_report = none })

-- a rehearsal whose run has come to its end
module _ (q : Request) (start old new : WriterState) (ended : Ended) (logged : IsLogged q (since start old) ended) where
  abbrev text : List ℕ
  text = log_of logged.of.scenario logged.of.run

  flushed : (u : Unit {0}) → WroteSeveral old new [] (Ok u) → Got (since start new) text
  flushed u p =
      record { bytes = subst (λ (t : List ℕ). Appends start.held new.held t) (append-nil text) (appends-more start.held old.held new.held text [] logged.whole_log.bytes p.0); whole = p.1 }

  -- its log could not be flushed
  pub stops_unflushed : (e : Refusal) → WroteSeveral old new [] (Err e) → StopsEarly q (since start new) e
  stops_unflushed e p =
      stopped_unwritten q logged.of (since start new) e
      (subst (λ (t : List ℕ). WroteSeveral start new t (Err e)) (append-nil text) (several_after start old new text [] (Err e) logged.whole_log.bytes p))

  -- the rest was written, or not
  pub ends_whole : (u : Unit {0}) → WroteSeveral old new [] (Ok u) → new.flushed ≡ true → (report : Writer) (v : Unit {0})
      → WroteSeveral report.before report.after (ending_with logged.of.scenario q.options.figures logged.of.run) (Ok v) → report.after.flushed ≡ true → IsWritten q (since start new) report
  ends_whole u p f report v w g =
      record { of = logged.of; not_over = logged.not_over; whole_log = flushed u p; whole_report = record { bytes = w.0; whole = w.1 }; flushed = (f, g) }

  pub ends_short : (u : Unit {0}) → WroteSeveral old new [] (Ok u) → (report : Writer) (e : Refusal)
      → WroteSeveral report.before report.after (ending_with logged.of.scenario q.options.figures logged.of.run) (Err e) → IsRefused q (since start new) report (faults.Refused e)
  ends_short u p report e w = refused_after_log q logged.of (since start new) report e (flushed u p) w
