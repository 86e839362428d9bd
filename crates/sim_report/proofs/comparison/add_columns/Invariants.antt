use Rattle.std.proofs.Common.{◌≡◌, ◌++◌, map, take}
use Rattle.std.specs.List.{zip}
use Rattle.sqs_formats.specs.Rows.{lines}
use Rattle.sqs_formats.specs.Report.{columns}
use Rattle.sqs_formats.specs.Comparison.{column_line}
use Rattle.sim_report.proofs.comparison.add_columns.Given as goal

abbrev pub invariant-loop-place : goal.invariant-loop-place
invariant-loop-place l = l.text ≡ l.initial.text ++ lines (map (column_line l.queue) (take l.place (zip columns (zip l.first l.second))))
