-- Rows with their lines, and what sinks take of them.
use Rattle.std.specs.Prelude.{List, fold, map, ℕ, ◌≡◌, ◌≤◌, ◌⊎◌}
use Rattle.std.proofs.Common.{refl}
use Rattle.sim_clock.specs.declared.key.Key.{Key}
use Rattle.sim_clock.specs.declared.refusal.Refusal.{Refusal}
use Rattle.sim_records.specs.Writes.{WriterState}
use Rattle.sim_engine.specs.Engine.{Engine}
use Rattle.sim_engine.specs.Mapping.{KeepsRows, MappedSite, Mapping, mapped}
use Rattle.sim_report.specs.Facts.{fact_of}
use Rattle.sim_report.specs.Reports.{Counts, fact_added}
use Rattle.sim_report.specs.declared.fact.Fact.{Fact}
use Rattle.sqs_formats.specs.Rows.{line, row_fields}
use Rattle.sqs_message.specs.declared.row.Row.{Row}
use Rattle.sqs_model.specs.Answers.{most_count}
use Rattle.sqs_model.specs.Counts.{receipt_count}
use Rattle.sqs_model.specs.Limits.{rows_count}
use Rattle.sqs_model.specs.Site.{Site}
use Rattle.sqs_model.specs.Sqs.{sqs}
use Rattle.sqs_redrive.specs.declared.transfers.Outbound.{Outbound}
use Rattle.sqs_rehearsal.specs.Limited.{Passed}
use Rattle.sqs_rehearsal.specs.Sinks.{Recorded, StoppedAt}
use Rattle.sqs_rehearsal.specs.declared.recorder.Recorder.{Recorder}

-- what the log and the report need of a row
pub record Printed : Type 0 where
  pub key : Key
  pub fact : Fact
  pub received : ℕ
  pub line : List ℕ

-- a row with its line, by the names of agents
abbrev pub printed : List (List ℕ) → Row → Printed
printed names r = record { key = r.key; fact = fact_of r; received = receipt_count r.receipt; line = line (row_fields names r) }

-- rows are mapped so
abbrev pub row_mapping : Mapping (List (List ℕ)) Row Printed
row_mapping = record { made = printed; key = λ p. p.key; site = λ p. p.fact.count.queue; count = λ p. p.received }

-- the engine of sites whose rows are printed
abbrev pub printed_sqs : Engine (MappedSite Site (List (List ℕ))) Printed Outbound
printed_sqs = mapped sqs row_mapping

-- a printed row tells the row's key, site and count
pub printed_keeps : KeepsRows sqs row_mapping
printed_keeps = record { key = λ names r. refl; site = λ names r. refl; count = λ names r. refl }

-- a report with what printed rows say
abbrev pub printed_added : Counts → List Printed → Counts
printed_added report made = fold (λ counts p. fact_added counts p.fact) report made

module _ {W P : Type 0} (state : W → WriterState) where
  -- a recorder took rows, none of which has a count past the limit
  pub record TookCounted (before : Recorder W P) (rows : List Row) (after : Recorder W P) : Type 0 where
    pub taken : Recorded state before rows after
    pub within : rows_count rows ≤ most_count

  -- it broke at rows, or a count among them is past the limit
  abbrev pub BrokeCounted : Recorder W P → List Row → Refusal → Recorder W P → Type 0
  BrokeCounted before rows refusal after = StoppedAt state before rows refusal after ⊎ Passed (Recorded state) before rows refusal after

  -- it took printed rows: of whatever rows they were printed by its names, it took these
  abbrev pub TookPrinted : Recorder W P → List Printed → Recorder W P → Type 0
  TookPrinted before made after = (rows : List Row) → made ≡ map (printed before.names.now) rows → TookCounted before rows after

  -- it broke at printed rows
  abbrev pub BrokePrinted : Recorder W P → List Printed → Refusal → Recorder W P → Type 0
  BrokePrinted before made refusal after = (rows : List Row) → made ≡ map (printed before.names.now) rows → BrokeCounted before rows refusal after

-- what holds of the rows, whichever they are, of which these are the printed ones
abbrev pub OfPrinted : List (List ℕ) → List Printed → (List Row → Type 0) → Type 0
OfPrinted names rows P = (made : List Row) → rows ≡ map (printed names) made → P made
