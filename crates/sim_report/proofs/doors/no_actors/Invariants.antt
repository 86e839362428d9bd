use Rattle.std.proofs.Common.{◌≡◌, [], replicate}
use Rattle.sim_report.proofs.doors.no_actors.Given as goal

abbrev pub invariant-loop : goal.invariant-loop
invariant-loop l = l.actors.items ≡ replicate l.counter []
