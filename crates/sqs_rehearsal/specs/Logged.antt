-- The figures of a log.
use Rattle.std.specs.Prelude.{◌≡◌, All, List, Option, ℕ}
use Rattle.sqs_formats.specs.Rows.{log_text}
use Rattle.sqs_message.specs.declared.row.Row.{Row}
use Rattle.sqs_model.specs.Scenario.{Scenario}
use Rattle.sim_logs.specs.Logs.{AreInTurn, IsReadUp, IsWritten}
use Rattle.sim_report.specs.Written.{figures_text}
use Rattle.sim_report.specs.declared.asked.Wanted.{Wanted}
use Rattle.sqs_rehearsal.specs.Wanted.{figures_of}

-- what was read, from what a reader had to what it has left, is the log of rows in the order of time, by the names of a
-- scenario, and these are their figures
pub record AreFigures (s : Scenario) (w : Wanted) (old new : Option (List ℕ)) (text : List ℕ) : Type 0 where
  pub rows : List Row
  pub turns : AreInTurn 0 rows
  pub written : All (IsWritten s.names) rows
  pub log : IsReadUp old new (log_text s.names rows)
  pub figures : text ≡ figures_text (figures_of s w) rows
