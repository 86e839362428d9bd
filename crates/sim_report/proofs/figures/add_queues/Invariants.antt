use Rattle.std.proofs.Common.{◌≡◌, ◌++◌, take}
use Rattle.std.specs.Prelude.{flat_map}
use Rattle.sqs_formats.specs.Rows.{lines}
use Rattle.sim_report.specs.Figured.{queue_records}
use Rattle.sim_report.proofs.figures.add_queues.Given as goal

abbrev pub invariant-loop-queue : goal.invariant-loop-queue
invariant-loop-queue l = l.text ≡ l.initial.text ++ lines (flat_map (queue_records l.wanted) (take l.queue-index l.queues))
