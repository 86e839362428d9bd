use Rattle.std.proofs.Common.{◌≡◌, ◌++◌, map, take}
use Rattle.sqs_model.specs.Finals.{final_task}
use Rattle.sqs_rehearsal.proofs.finals.add_tasks.Given as goal

abbrev pub invariant-loop-task : goal.invariant-loop-task
invariant-loop-task l = l.list.items ≡ l.initial.list.items ++ map final_task (take l.task-index l.tasks)
