use Rattle.std.proofs.Math.Nat.{max-le}
use Rattle.sqs_model.specs.Counts.{task_count}
use Rattle.sim_site.proofs.Greatest.{greatest_next}
use Rattle.sim_site.proofs.state.greatest_of_tasks.Goals as goal

pub loop-task-preserved : goal.loop-task-preserved
loop-task-preserved c =
    record {
      most = greatest_next task_count c.args.tasks.now c.loop-task.task-index c.task-item.result _ _ _ c.loop-task-test.true c.task-item.is c.greatest_count.ensures.count c.loop-task.invariant.most c.max-most.ensures;
      limit = rw c.max-most.ensures (max-le c.greatest_count.ensures.limit c.loop-task.invariant.limit);
    }
