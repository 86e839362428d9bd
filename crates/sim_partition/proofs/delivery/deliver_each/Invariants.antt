use Rattle.std.proofs.Common.{◌≡◌}
use Rattle.sim_engine.specs.World.{delivered}
use Rattle.sim_index.specs.Marked.{AreMarked}
use Rattle.sim_partition.specs.Sites.{mark_of}
use Rattle.sim_partition.proofs.delivery.deliver_each.Given as goal

-- those so far are delivered
abbrev pub invariant-loop-transfer : goal.invariant-loop-transfer
invariant-loop-transfer g l =
    record {
      delivered : l.sites.values ≡ delivered g.S.Site.engine l.yielded l.initial.sites.values;
      marked : AreMarked (mark_of g.S.Site.engine) l.sites;
    }
