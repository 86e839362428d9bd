-- What the reader makes of a log.
use Rattle.std.specs.Prelude.{◌≡◌, ◌≢◌, ◌⊎◌, ◌<◌, ◌≤◌, ◌+◌, ℕ, ⊤, List, [], ◌∷◌, ◌++◌, All, Option, IfSome, length}
use Rattle.std.specs.Io.KnownBytes.{Consumes}
use Rattle.sqs_message.specs.declared.row.Row.{Row}
use Rattle.sqs_message.specs.declared.row.Detail.{Detail}
use Rattle.sqs_message.specs.declared.row.Detail.TheVariants as details
use Rattle.sqs_formats.specs.Finals.{message_header}
use Rattle.sqs_formats.specs.Rows.{Names, line, log_text, row_fields}
use Rattle.sim_report.specs.Facts.{fact_of}
use Rattle.sim_report.specs.Figured.{FiguresState, figures_after, figures_with, last_at}
use Rattle.sim_logs.specs.Columns.{HasItsColumns}
use Rattle.sim_logs.specs.Faults.{IsHeaderFault, IsReadFault}
use Rattle.sim_logs.specs.declared.fault.LogFault.{LogFault}
use Rattle.sim_logs.specs.declared.fault.LogFault.TheVariants as faults

-- the agent in the detail column, if there is one
abbrev pub agent_in : Detail → List ℕ
agent_in (details.Queue n) = n ∷ []
agent_in (details.Task n) = n ∷ []
agent_in detail = []

-- a row of agents that have these names, with the columns of its kind and its answer
pub record IsWritten (names : Names) (row : Row) : Type 0 where
  pub columns : HasItsColumns row
  pub agents : All (λ n. n < length names) (row.queue ∷ row.agent ∷ agent_in row.detail)

-- no row is of an earlier moment than the row above it, nor the first than this one
abbrev pub AreInTurn : ℕ → List Row → Type 0
AreInTurn at [] = ⊤
AreInTurn at (row ∷ rows) = (at ≤ row.key.at) × AreInTurn row.key.at rows

-- these bytes are all that there is, or the header of the final queues stands behind them
abbrev pub IsReadUp : Option (List ℕ) → Option (List ℕ) → List ℕ → Type 0
IsReadUp old new bytes = IfSome old (λ all. bytes ≡ all) ⊎ Consumes old new (bytes ++ line message_header)

-- a log of rows was read, and their figures are added to those before
pub record IsRead (names : Names) (before : FiguresState) (old new : Option (List ℕ)) (after : FiguresState) : Type 0 where
  pub rows : List Row
  pub turns : AreInTurn 0 rows
  pub written : All (IsWritten names) rows
  pub log : IsReadUp old new (log_text names rows)
  pub figures : after ≡ figures_after rows before

-- a log of rows was read, and the line behind it, which has this number
pub record IsStopped (names : Names) (old new : Option (List ℕ)) (number : ℕ) (Why : List Row → List ℕ → Type 0) : Type 0 where
  pub rows : List Row
  pub turns : AreInTurn 0 rows
  pub written : All (IsWritten names) rows
  pub text : List ℕ
  pub log : Consumes old new (log_text names rows ++ text)
  pub number_is : number ≡ length rows + 2
  pub why : Why rows text

-- a line is that of a row that is written
pub record IsRowOf (names : Names) (text : List ℕ) (row : Row) : Type 0 where
  pub written : IsWritten names row
  pub text_is : text ≡ line (row_fields names row)

-- a line is a row of a moment before this one
pub record IsEarlier (names : Names) (latest : ℕ) (text : List ℕ) : Type 0 where
  pub row : Row
  pub is_row : IsRowOf names text row
  pub earlier : row.key.at < latest

-- when a log is refused. Of a line that is no row, only its place is said here
abbrev pub IsFault : Names → Option (List ℕ) → Option (List ℕ) → LogFault → Type 0
IsFault names old new (faults.NoRow n) = IsStopped names old new n (λ rows text. text ≢ line message_header)
IsFault names old new (faults.Earlier n) = IsStopped names old new n (λ rows text. IsEarlier names (last_at 0 rows) text)
IsFault names old new fault = IsHeaderFault old fault

-- the reader between two lines: the names, the figures so far, and the moment of the last row
pub record ReadingState : Type 0 where
  pub names : Names
  pub figures : FiguresState
  pub latest : ℕ

-- a line is the next row, and the reader has taken it
pub record IsNext (old new : ReadingState) (text : List ℕ) : Type 0 where
  pub row : Row
  pub is_row : IsRowOf old.names text row
  pub turn : old.latest ≤ row.key.at
  pub names_are : new.names ≡ old.names
  pub figures_are : new.figures ≡ figures_with (fact_of row) old.figures
  pub latest_is : new.latest ≡ row.key.at

-- when the line with this number is refused
abbrev pub IsFaultAt : ReadingState → List ℕ → ℕ → LogFault → Type 0
IsFaultAt r text number (faults.NoRow n) = n ≡ number
IsFaultAt r text number (faults.Earlier n) = (n ≡ number) × IsEarlier r.names r.latest text
IsFaultAt r text number fault = IsReadFault fault
