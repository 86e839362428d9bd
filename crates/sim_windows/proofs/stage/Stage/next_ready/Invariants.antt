use Rattle.std.proofs.Common.{◌≡◌}
use Rattle.sim_windows.specs.Stages.{next_of}
use Rattle.sim_windows.proofs.stage.Stage.next_ready.Given as goal

-- the least of what those so far have
abbrev pub invariant-loop-place : goal.invariant-loop-place
invariant-loop-place g l = l.next ≡ next_of g.S.Site.engine l.self l.place
