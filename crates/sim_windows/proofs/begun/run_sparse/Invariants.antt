use Rattle.std.proofs.Common.{[], ◌+◌, ◌-◌, ◌≡◌}
use Rattle.std.specs.Prelude.{IsOk}
use Rattle.sim_engine.specs.World.{world_due}
use Rattle.sim_windows.specs.Gathered.{HasGathered, gathered}
use Rattle.sim_windows.specs.Worlds.{due_at, sites_in}
use Rattle.sim_windows.proofs.begun.run_sparse.Given as goal

abbrev pub invariant-loop-key : goal.invariant-loop-key
invariant-loop-key g l =
    record {
      ready : g.K.RowSink.ready l.sink;
      lives : IsOk l.roster;
      none : l.effects.sent.items ≡ [];
      ran :
          HasGathered g.S.Site.engine g.K.RowSink.took l.horizon (sites_in l.initial.roster) (gathered l.initial.sink l.initial.effects.rows.items) (sites_in l.roster) (gathered l.sink l.effects.rows.items);
    }

-- the time to the horizon
abbrev pub decreases-loop-key : goal.decreases-loop-key
decreases-loop-key g l = l.horizon + 1 - due_at l.horizon (world_due g.S.Site.engine (sites_in l.roster))
