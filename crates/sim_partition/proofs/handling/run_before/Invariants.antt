use Rattle.std.proofs.Common.{◌-◌}
use Rattle.std.specs.Prelude.{All}
use Rattle.sim_engine.specs.World.{world_due}
use Rattle.sim_partition.specs.Sites.{IsKept}
use Rattle.sim_partition.specs.Steps.{Continues, StaysOfPast, due_at, part_made}
use Rattle.sim_partition.proofs.handling.run_before.Given as goal

abbrev pub invariant-loop-key : goal.invariant-loop-key
invariant-loop-key g l =
    record {
      kept : IsKept g.S.Site.engine g.S.Site.conditions l.sites;
      goes_on : Continues g.S.Site.engine l.end (part_made g.S.Site.engine l.initial.sites.values l.initial.effects) (part_made g.S.Site.engine l.sites.values l.effects);
      past : StaysOfPast g.S.Site.conditions l.end l.initial.sites.values l.sites.values;
      timely : All g.S.Site.conditions.Timely l.initial.effects.sent.items → All g.S.Site.conditions.Timely l.effects.sent.items;
    }

-- the time to the end
abbrev pub decreases-loop-key : goal.decreases-loop-key
decreases-loop-key g l = l.end - due_at l.end (world_due g.S.Site.engine l.sites.values)
