use Rattle.std.proofs.Common.{◌≡◌, ◌++◌, map, take}
use Rattle.std.specs.Prelude.{flat_map}
use Rattle.std.specs.List.{enumerate_from}
use Rattle.sqs_formats.specs.Rows.{lines}
use Rattle.sim_report.specs.Doors.{records_of_queue}
use Rattle.sim_report.specs.Figured.{queue_name}
use Rattle.sim_report.proofs.figures.add_queue_doors.Given as goal

abbrev pub invariant-loop-queue : goal.invariant-loop-queue
invariant-loop-queue l =
    l.text ≡ l.initial.text ++ lines (flat_map (records_of_queue l.wanted l.doors) (take l.queue (enumerate_from 0 (map queue_name l.queues))))
