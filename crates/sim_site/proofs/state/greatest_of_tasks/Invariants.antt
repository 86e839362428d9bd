use Rattle.std.proofs.Common.{map, take, ◌≡◌, ◌≤◌}
use Rattle.sqs_model.specs.Answers.{most_count}
use Rattle.sqs_model.specs.Counts.{task_count, greatest}
use Rattle.sim_site.proofs.state.greatest_of_tasks.Given as goal

-- the greatest count of those so far
abbrev pub invariant-loop-task : goal.invariant-loop-task
invariant-loop-task l = record { most : l.most ≡ greatest (map task_count (take l.task-index l.tasks)); limit : l.most ≤ most_count }
