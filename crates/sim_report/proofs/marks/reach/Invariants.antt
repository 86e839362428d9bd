use Rattle.std.proofs.Common.{◌≡◌, ◌-◌}
use Rattle.sim_report.specs.Doors.{reach}
use Rattle.sim_report.proofs.marks.reach.Given as goal

abbrev pub invariant-loop : goal.invariant-loop
invariant-loop l = reach (l.steps - l.counter) l.ways l.marks ≡ reach l.steps l.ways l.initial.marks
