-- What is handed to a worker, and how many rows came of it.
use Rattle.std.specs.Prelude.{Err, List, Ok, Result, length, ℕ}
use Rattle.sim_clock.specs.declared.refusal.Refusal.{Refusal}
use Rattle.sim_windows.specs.declared.lent.Came.{Came}
use Rattle.sim_workers.specs.declared.piece.Done.{Done}

-- a partition, and how far it is to run
pub record Task (Site : Type 0) : Type 0 where
  pub part : Result (List Site) Refusal
  pub bound : ℕ

module _ {Site Row Transfer : Type 0} where
  -- how many rows were made
  abbrev pub row_count_of : Result (Came Site Row Transfer) Refusal → ℕ
  row_count_of (Ok came) = length came.made.rows.items
  row_count_of (Err refusal) = 0

  -- how many rows came of a piece
  abbrev pub row_count : Done Site Row Transfer → ℕ
  row_count done = row_count_of done.outcome
