use Rattle.std.proofs.Common.{◌≡◌, ◌++◌, flat_map, take}
use Rattle.sqs_formats.specs.Rows.{lines}
use Rattle.sim_report.specs.Compared.{new_lines}
use Rattle.sim_report.proofs.comparison.add_second.Given as goal

abbrev pub invariant-loop-queue : goal.invariant-loop-queue
invariant-loop-queue l = l.text ≡ l.initial.text ++ lines (flat_map (new_lines l.first) (take l.queue-index l.second))
