use Rattle.std.proofs.Common.{length, ◌≤◌}
use Rattle.sim_windows.specs.Stages.{LeadsTo, left_in}
use Rattle.sim_workers.specs.Teams.{HasPlaces}
use Rattle.sim_workers.specs.Runs.{Told}
use Rattle.sim_workers.proofs.rounds.run_rounds.Given as goal

-- the stage stands some picks on, and the sink took what was settled
abbrev pub invariant-loop-next : goal.invariant-loop-next
invariant-loop-next g l = record {
  places : HasPlaces (length l.stage.parts) l.team;
  span : 1 ≤ l.pace.span;
  ready : g.K.RowSink.ready l.sink;
  leads : LeadsTo g.S.Site.engine g.S.Site.conditions l.fn.stage l.stage;
  told : Told g.S.Site.engine g.S.Site.conditions g.K.RowSink.took l.fn.stage l.initial.sink l.stage l.sink;
}

-- each turn leaves less
abbrev pub decreases-loop-next : goal.decreases-loop-next
decreases-loop-next g l = left_in g.S.Site.engine l.stage
