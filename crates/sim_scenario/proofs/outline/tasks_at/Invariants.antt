use Rattle.std.proofs.Common.{◌≡◌, ◌+◌, ◌++◌, drop}
use Rattle.std.specs.List.{enumerate_from, zip}
use Rattle.sqs_formats.specs.Actors.{tasks_at}
use Rattle.sim_scenario.proofs.outline.tasks_at.Given as goal

-- those found so far, with those that are left, are all
abbrev pub invariant-loop-i : goal.invariant-loop-i
invariant-loop-i l =
    tasks_at l.home (enumerate_from l.first (zip l.names l.homes)) ≡ l.tasks.items ++ tasks_at l.home (enumerate_from (l.first + l.i) (zip (drop l.i l.names) (drop l.i l.homes)))
