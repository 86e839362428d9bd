use Rattle.std.proofs.Common.{[], ℕ, ◌≡◌, ◌≤◌}
use Rattle.std.specs.Prelude.{IsOk}
use Rattle.sim_engine.specs.World.{world_due}
use Rattle.sim_engine.proofs.WorldMoves.{world_count}
use Rattle.sim_windows.specs.Gathered.{HasGathered, gathered}
use Rattle.sim_partition.specs.Sites.{IsFrom}
use Rattle.sim_windows.specs.Worlds.{sites_in}
use Rattle.sim_windows.proofs.alone.run_moment.Given as goal

abbrev pub invariant-loop-key : goal.invariant-loop-key
invariant-loop-key g l =
    record {
      ready : g.K.RowSink.ready l.sink;
      lives : IsOk l.roster;
      none : l.effects.sent.items ≡ [];
      ran :
          (horizon : ℕ) → l.moment ≤ horizon
          → HasGathered g.S.Site.engine g.K.RowSink.took horizon (sites_in l.initial.roster) (gathered l.initial.sink l.initial.effects.rows.items) (sites_in l.roster) (gathered l.sink l.effects.rows.items);
      from : IsFrom l.moment (world_due g.S.Site.engine (sites_in l.roster));
    }

-- what is due by the moment
abbrev pub decreases-loop-key : goal.decreases-loop-key
decreases-loop-key g l = world_count g.met.S.Site.laws l.moment (sites_in l.roster)
