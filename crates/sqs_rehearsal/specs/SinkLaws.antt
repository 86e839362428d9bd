-- What a sink took in turn it took together.
use Rattle.std.proofs.Common.{◌≡◌, ◌++◌, ◌∙◌, [], ℕ, Err, List, ap, append-nil, append_assoc, refl, subst, sym}
use Rattle.std.proofs.lemmas.Grind.{flat_map-append}
use Rattle.std.proofs.lemmas.List.{map-append}
use Rattle.std.specs.Io.KnownBytes.{Appends}
use Rattle.csv.proofs.WriteFacts.{appends-more, appends-none}
use Rattle.sim_clock.specs.declared.refusal.Refusal.{Refusal}
use Rattle.sqs_message.specs.declared.row.Row.{Row}
use Rattle.sqs_formats.specs.Rows.{line}
use Rattle.sim_records.specs.Writes.{WriterState, WroteSeveral}
use Rattle.sim_records.proofs.Writes.{several_after}
use Rattle.sim_report.specs.Reports.{Counts, running}
use Rattle.sqs_rehearsal.specs.declared.counter.Counter.{Counter}
use Rattle.sqs_rehearsal.specs.declared.recorder.Recorder.{Recorder}
use Rattle.sqs_rehearsal.specs.Sinks.{Added, Counted, IsSame, Recorded, StoppedAt, lines_of}

-- a report with no more rows
added_none : (report : Counts) → Added report [] report
added_none report = λ asked sofar is. is ∙ ap (running asked) (sym (append-nil sofar))

-- a report with some rows, and then others
added_both : (a b c : Counts) (xs ys : List Row) → Added a xs b → Added b ys c → Added a (xs ++ ys) c
added_both a b c xs ys first second =
    λ asked sofar is. second asked (sofar ++ xs) (first asked sofar is) ∙ ap (running asked) (append_assoc sofar xs ys)

-- a counter as it was took nothing
pub counted_none : (counter : Counter) → Counted counter [] counter
counted_none counter = record { same = refl; added = added_none counter.report.now }

-- a counter took some rows, and then others
pub counted_both : (a b c : Counter) (xs ys : List Row) → Counted a xs b → Counted b ys c → Counted a (xs ++ ys) c
counted_both a b c xs ys first second =
    record { same = second.same ∙ first.same; added = added_both a.report.now b.report.now c.report.now xs ys first.added second.added }

-- the same from first to last
same_both : {W P : Type 0} (a b c : Recorder W P) → IsSame a b → IsSame b c → IsSame a c
same_both a b c first second =
    record { names = second.names ∙ first.names; writer = second.writer ∙ first.writer; report = second.report ∙ first.report }

-- the lines of some rows, and then those of others
lines_both : {W P : Type 0} (a b : Recorder W P) (xs ys : List Row) → IsSame a b → lines_of a xs ++ lines_of b ys ≡ lines_of a (xs ++ ys)
lines_both a b xs ys same = rw (same.names, map-append, flat_map-append line) refl

module _ {W P : Type 0} (state : W → WriterState) where
  -- a recorder as it was took nothing
  pub recorded_none : (recorder : Recorder W P) → Recorded state recorder [] recorder
  recorded_none recorder =
      record {
        same = record { names = refl; writer = refl; report = refl };
        written = appends-none (state recorder.out.now).held;
        works = λ works. works;
        added = added_none recorder.report.now;
      }

  -- a recorder took some rows, and then others
  pub recorded_both : (a b c : Recorder W P) (xs ys : List Row) → Recorded state a xs b → Recorded state b ys c → Recorded state a (xs ++ ys) c
  recorded_both a b c xs ys first second =
      record {
        same = same_both a b c first.same second.same;
        written =
            subst (λ (t : List ℕ). Appends (state a.out.now).held (state c.out.now).held t) (lines_both a b xs ys first.same)
            (appends-more _ _ _ _ _ first.written second.written);
        works = λ works. second.works (first.works works);
        added = added_both a.report.now b.report.now c.report.now xs ys first.added second.added;
      }

  -- a recorder took some rows, and then stopped at others
  pub stopped_later : (a b c : Recorder W P) (xs ys : List Row) (refusal : Refusal)
      → Recorded state a xs b → StoppedAt state b ys refusal c → StoppedAt state a (xs ++ ys) refusal c
  stopped_later a b c xs ys refusal first second =
      record {
        same = same_both a b c first.same second.same;
        written =
            subst (λ (t : List ℕ). WroteSeveral (state a.out.now) (state c.out.now) t (Err refusal)) (lines_both a b xs ys first.same)
            (several_after (state a.out.now) (state b.out.now) (state c.out.now) _ _ (Err refusal) first.written second.written);
      }
