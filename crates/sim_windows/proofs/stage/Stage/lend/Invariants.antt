use Rattle.std.proofs.Common.{map, min, take, ◌≡◌}
use Rattle.sim_windows.proofs.stage.Stage.lend.Given as goal

-- the ends of those so far
abbrev pub invariant-loop-bound : goal.invariant-loop-bound
invariant-loop-bound g l = l.ends.items ≡ map (λ bound. min bound l.cut) (take l.bound-index l.bound-items)
