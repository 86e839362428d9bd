use Rattle.std.proofs.Common.{◌≡◌, replicate}
use Rattle.sim_report.specs.Doors.{no_door}
use Rattle.sim_report.proofs.doors.no_queues.Given as goal

abbrev pub invariant-loop : goal.invariant-loop
invariant-loop l = l.queues.items ≡ replicate l.counter no_door
