use Rattle.std.proofs.Common.{ℕ, ◌<◌}
use Rattle.std.specs.Prelude.{All}
use Rattle.sim_engine.proofs.WorldMoves.{world_count}
use Rattle.sim_engine.specs.World.{world_due}
use Rattle.sim_partition.specs.Sites.{IsFrom, IsKept}
use Rattle.sim_partition.specs.Steps.{Continues, StaysOfPast, part_made}
use Rattle.sim_partition.proofs.handling.run_moment.Given as goal

abbrev pub invariant-loop-key : goal.invariant-loop-key
invariant-loop-key g l =
    record {
      kept : IsKept g.S.Site.engine g.S.Site.conditions l.sites;
      from : IsFrom l.moment (world_due g.S.Site.engine l.sites.values);
      goes_on : (bound : ℕ) → l.moment < bound → Continues g.S.Site.engine bound (part_made g.S.Site.engine l.initial.sites.values l.initial.effects) (part_made g.S.Site.engine l.sites.values l.effects);
      past : StaysOfPast g.S.Site.conditions l.moment l.initial.sites.values l.sites.values;
      timely : All g.S.Site.conditions.Timely l.initial.effects.sent.items → All g.S.Site.conditions.Timely l.effects.sent.items;
    }

-- what is due by the moment
abbrev pub decreases-loop-key : goal.decreases-loop-key
decreases-loop-key g l = world_count g.met.S.Site.laws l.moment l.sites.values
