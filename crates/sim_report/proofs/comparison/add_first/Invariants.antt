use Rattle.std.proofs.Common.{◌≡◌, ◌++◌, flat_map, take}
use Rattle.sqs_formats.specs.Rows.{lines}
use Rattle.sqs_formats.specs.Comparison.{compared, named}
use Rattle.sim_report.proofs.comparison.add_first.Given as goal

abbrev pub invariant-loop-queue : goal.invariant-loop-queue
invariant-loop-queue l = l.text ≡ l.initial.text ++ lines (flat_map (λ q. compared q (named q.0 l.second)) (take l.queue-index l.first))
