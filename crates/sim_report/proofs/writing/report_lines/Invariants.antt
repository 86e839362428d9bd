use Rattle.std.proofs.Common.{◌≡◌, ◌∷◌, map, take}
use Rattle.std.specs.Prelude.{codes}
use Rattle.sqs_formats.specs.Rows.{lines}
use Rattle.sqs_formats.specs.Report.{columns, report_fields}
use Rattle.sim_report.proofs.writing.report_lines.Given as goal

abbrev pub invariant-loop-queue : goal.invariant-loop-queue
invariant-loop-queue l = l.text ≡ lines ((codes "report" ∷ codes "queue" ∷ columns) ∷ map report_fields (take l.queue-index l.report))
