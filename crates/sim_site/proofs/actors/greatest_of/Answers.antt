use Rattle.std.proofs.Math.Nat.{max-le}
use Rattle.sqs_model.specs.Counts.{actor_count}
use Rattle.sim_site.proofs.Greatest.{greatest_next}
use Rattle.sim_site.proofs.actors.greatest_of.Goals as goal

pub loop-actor-preserved : goal.loop-actor-preserved
loop-actor-preserved c =
    record {
      most = greatest_next actor_count c.args.actors.now c.loop-actor.actor-index c.actor-item.result _ _ _ c.loop-actor-test.true c.actor-item.is c.greatest_count.ensures.count c.loop-actor.invariant.most c.max-most.ensures;
      limit = rw c.max-most.ensures (max-le c.greatest_count.ensures.limit c.loop-actor.invariant.limit);
    }
