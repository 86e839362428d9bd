use Rattle.std.proofs.Common.{◌≡◌, sum_by, take}
use Rattle.std.specs.List.{enumerate_from}
use Rattle.sim_report.specs.Doors.{in_marked}
use Rattle.sim_report.proofs.door_figures.in_marked.Given as goal

abbrev pub invariant-loop-queue : goal.invariant-loop-queue
invariant-loop-queue l = l.sum ≡ sum_by (in_marked l.marks) (take l.queue (enumerate_from 0 l.doors))
