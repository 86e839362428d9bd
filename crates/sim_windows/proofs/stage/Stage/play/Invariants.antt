use Rattle.std.proofs.Common.{take, ◌≤◌}
use Rattle.sim_windows.specs.Stages.{BeginWith, Plays, Tells}
use Rattle.sim_windows.proofs.stage.Stage.play.Given as goal

-- those so far have been done
abbrev pub invariant-loop-pick : goal.invariant-loop-pick
invariant-loop-pick g l = record {
  plays : Plays g.S.Site.engine g.S.Site.conditions l.fn.self l.stage (take l.pick-index l.picks) l.effects;
  tells : Tells g.S.Site.engine g.S.Site.conditions l.fn.self l.initial.told.items l.stage l.told.items;
  keeps : BeginWith l.initial.told.items l.told.items;
  few : l.effects ≤ l.pick-index;
}
