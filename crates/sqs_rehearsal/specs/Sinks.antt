-- What a sink took.
use Rattle.std.specs.Prelude.{◌≡◌, ◌++◌, ℕ, List, Err, false, map}
use Rattle.std.specs.Io.KnownBytes.{Appends}
use Rattle.sim_clock.specs.declared.refusal.Refusal.{Refusal}
use Rattle.sqs_message.specs.declared.row.Row.{Row}
use Rattle.sqs_formats.specs.Rows.{lines, row_fields}
use Rattle.sim_records.specs.Writes.{WriterState, WroteSeveral}
use Rattle.sim_report.specs.Reports.{Asked, Counts, running}
use Rattle.sqs_rehearsal.specs.declared.counter.Counter.{Counter}
use Rattle.sqs_rehearsal.specs.declared.recorder.Recorder.{Recorder}

-- the report of whatever rows became the report of those rows and then these
abbrev pub Added : Counts → List Row → Counts → Type 0
Added before rows after =
    (asked : Asked) (sofar : List Row) → before ≡ running asked sofar → after ≡ running asked (sofar ++ rows)

-- these rows were added to the same report
pub record Counted (before : Counter) (rows : List Row) (after : Counter) : Type 0 where
  pub same : after.report.ghost_name ≡ before.report.ghost_name
  pub added : Added before.report.now rows after.report.now

-- the lines of rows, with a recorder's names
abbrev pub lines_of : {W P : Type 0} → Recorder W P → List Row → List ℕ
lines_of recorder rows = lines (map (row_fields recorder.names.now) rows)

-- the same names, writer and report before and after
pub record IsSame {W P : Type 0} (before after : Recorder W P) : Type 0 where
  pub names : after.names.now ≡ before.names.now
  pub writer : after.out.ghost_name ≡ before.out.ghost_name
  pub report : after.report.ghost_name ≡ before.report.ghost_name

module _ {W P : Type 0} (state : W → WriterState) where
  -- the writer got the lines of these rows and no more, and has not failed by that; they were added to the report
  pub record Recorded (before : Recorder W P) (rows : List Row) (after : Recorder W P) : Type 0 where
    pub same : IsSame before after
    pub written : Appends (state before.out.now).held (state after.out.now).held (lines_of before rows)
    pub works : (state before.out.now).failed ≡ false → (state after.out.now).failed ≡ false
    pub added : Added before.report.now rows after.report.now

  -- the writer got a prefix of the lines of these rows, and whether it failed
  pub record StoppedAt (before : Recorder W P) (rows : List Row) (refusal : Refusal) (after : Recorder W P) : Type 0 where
    pub same : IsSame before after
    pub written : WroteSeveral (state before.out.now) (state after.out.now) (lines_of before rows) (Err refusal)

-- a recorder whose writer has not failed
module _ {W P : Type 0} (state : W → WriterState) where
  abbrev pub Works : Recorder W P → Type 0
  Works recorder = (state recorder.out.now).failed ≡ false
