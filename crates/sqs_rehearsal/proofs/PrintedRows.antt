-- What a recorder takes of printed rows is what it takes of the rows.
use Rattle.std.specs.List.{list_all}
use Rattle.std.specs.Prelude.{Err, List, Ok, OnOk, Result, [], flat_map, map, nat_le, ℕ, ◌++◌, ◌&&◌, ◌∷◌, ◌≡◌}
use Rattle.std.proofs.Common.{ap, refl, subst, sym, ◌∙◌}
use Rattle.std.specs.Io.KnownBytes.{Appends}
use Rattle.sim_clock.specs.declared.refusal.Refusal.{Refusal}
use Rattle.sim_clock.specs.declared.refusal.Refusal.TheVariants as refusals
use Rattle.sim_records.proofs.Writes.{several-one}
use Rattle.sim_records.specs.Writes.{WriterState, Wrote, WroteSeveral}
use Rattle.sim_report.proofs.Reporting.{facts-append}
use Rattle.sim_report.specs.Facts.{fact_of}
use Rattle.sim_report.specs.Reports.{Counts, fact_added, facts_added}
use Rattle.sqs_formats.specs.Rows.{line, lines, row_fields}
use Rattle.sqs_message.specs.declared.row.Row.{Row}
use Rattle.sqs_model.specs.Answers.{most_count}
use Rattle.sqs_model.specs.Counts.{receipt_count}
use Rattle.sqs_rehearsal.proofs.Prefixes.{all_are_prefix}
use Rattle.sqs_rehearsal.specs.Printed.{Printed, printed, printed_added}
use Rattle.sqs_rehearsal.specs.Sinks.{Added, IsSame, Recorded, StoppedAt, lines_of}
use Rattle.sqs_rehearsal.specs.declared.recorder.Recorder.{Recorder}

-- the lines of printed rows
abbrev pub text_in : List Printed → List ℕ
text_in made = flat_map (λ p. p.line) made

text_printed : (names : List (List ℕ)) (rows : List Row) → text_in (map (printed names) rows) ≡ lines (map (row_fields names) rows)
text_printed names [] = refl
text_printed names (r ∷ rows) = ap (λ t. line (row_fields names r) ++ t) (text_printed names rows)

-- a report with what printed rows say
facts_printed : (names : List (List ℕ)) (report : Counts) (rows : List Row) → printed_added report (map (printed names) rows) ≡ facts_added report rows
facts_printed names report [] = refl
facts_printed names report (r ∷ rows) = facts_printed names (fact_added report (fact_of r)) rows

added_printed : (names : List (List ℕ)) (report : Counts) (rows : List Row) → Added report rows (printed_added report (map (printed names) rows))
added_printed names report rows asked sofar is =
    facts_printed names report rows ∙ ap (λ (c : Counts). facts_added c rows) is ∙ facts-append asked sofar rows

-- whether printed rows have a count past the limit
pub within_printed : (names : List (List ℕ)) (rows : List Row)
    → list_all (λ (p : Printed). nat_le p.received most_count) (map (printed names) rows) ≡ list_all (λ (r : Row). nat_le (receipt_count r.receipt) most_count) rows
within_printed names [] = refl
within_printed names (r ∷ rows) = ap (λ b. nat_le (receipt_count r.receipt) most_count && b) (within_printed names rows)

-- what an answer promises of each is promised of each in an answer
pub on_ok_each : {T E A : Type 0} (B P : A → Type 0) (r : Result T E) → ((x : A) → B x → OnOk r (P x)) → OnOk r ((x : A) → B x → P x)
on_ok_each B P (Ok t) h = h
on_ok_each B P (Err e) h = tt

module _ {W P : Type 0} (state : W → WriterState) (before after : Recorder W P) (made : List Printed) (rows : List Row) (are : made ≡ map (printed before.names.now) rows) (same : IsSame before after) where
  -- their text is that of the rows
  text_is : text_in made ≡ lines_of before rows
  text_is = ap text_in are ∙ text_printed before.names.now rows

  -- all are written and counted
  pub recorded_printed : (u : Unit {0}) → Wrote (state before.out.now) (state after.out.now) (text_in made) (Ok u) → after.report.now ≡ printed_added before.report.now made → Recorded state before rows after
  recorded_printed u wrote counted =
      let all : after.report.now ≡ printed_added before.report.now (map (printed before.names.now) rows) = counted ∙ ap (printed_added before.report.now) are in
      record {
        same = same;
        written = subst (λ (t : List ℕ). Appends (state before.out.now).held (state after.out.now).held t) text_is wrote.0;
        works = λ works. wrote.1;
        added = subst (λ (c : Counts). Added before.report.now rows c) (sym all) (added_printed before.names.now before.report.now rows);
      }

  -- they could not be written
  pub stopped_printed : (e : Refusal) → Wrote (state before.out.now) (state after.out.now) (text_in made) (Err e) → StoppedAt state before rows e after
  stopped_printed e wrote =
      record {
        same = same;
        written =
            subst (λ (t : List ℕ). WroteSeveral (state before.out.now) (state after.out.now) t (Err e)) text_is
            (several-one (state before.out.now) (state after.out.now) (text_in made) (Err e) wrote);
      }

  -- or not counted
  pub uncounted_printed : (u : Unit {0}) → Wrote (state before.out.now) (state after.out.now) (text_in made) (Ok u) → StoppedAt state before rows refusals.Memory after
  uncounted_printed u wrote =
      record {
        same = same;
        written =
            subst (λ (t : List ℕ). WroteSeveral (state before.out.now) (state after.out.now) t (Err refusals.Memory)) text_is
            (all_are_prefix (state before.out.now).held (state after.out.now).held (text_in made) wrote.0, wrote.1);
      }
