use Rattle.std.proofs.Common.{◌≡◌, sum_by, take}
use Rattle.sim_report.specs.Doors.{to_marked}
use Rattle.sim_report.proofs.onward.to_marked.Given as goal

abbrev pub invariant-loop-forwards : goal.invariant-loop-forwards
invariant-loop-forwards l = l.sum ≡ sum_by (to_marked l.marks) (take l.forwards-index l.all)
