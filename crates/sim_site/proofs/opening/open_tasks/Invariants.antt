use Rattle.std.proofs.Common.{◌≡◌, map, take}
use Rattle.sqs_model.specs.Scenario.{opening_task}
use Rattle.sim_site.proofs.opening.open_tasks.Given as goal

-- those so far
abbrev pub invariant-loop-i : goal.invariant-loop-i
invariant-loop-i l = l.opened.items ≡ map (opening_task l.seed) (take l.i l.tasks)
