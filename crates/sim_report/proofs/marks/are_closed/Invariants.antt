use Rattle.std.proofs.Common.{◌≡◌, fold, take}
use Rattle.sim_report.specs.Doors.{reach_by}
use Rattle.sim_report.proofs.marks.are_closed.Given as goal

abbrev pub invariant-loop-place : goal.invariant-loop-place
invariant-loop-place l = fold reach_by l.marks (take l.place l.ways) ≡ l.marks
