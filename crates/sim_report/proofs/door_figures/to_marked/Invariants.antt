use Rattle.std.proofs.Common.{◌≡◌, List, sum_by, take}
use Rattle.sim_report.specs.Doors.{to_marked}
use Rattle.sim_report.specs.Forwards.{ForwardsState}
use Rattle.sim_report.proofs.door_figures.to_marked.Given as goal

abbrev pub invariant-loop-onward : goal.invariant-loop-onward
invariant-loop-onward l = l.sum ≡ sum_by (λ (fs : List ForwardsState). sum_by (to_marked l.marks) fs) (take l.onward-index l.actors)
