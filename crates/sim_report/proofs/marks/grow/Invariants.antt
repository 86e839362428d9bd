use Rattle.std.proofs.Common.{◌≡◌, fold, take}
use Rattle.sim_report.specs.Doors.{reach_by}
use Rattle.sim_report.proofs.marks.grow.Given as goal

abbrev pub invariant-loop-way : goal.invariant-loop-way
invariant-loop-way l = l.marks ≡ fold reach_by l.initial.marks (take l.way-index l.ways)
