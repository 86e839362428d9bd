use Rattle.std.proofs.Common.{get_or, ◌≡◌}
use Rattle.sim_engine.specs.Bounds.{least_bound}
use Rattle.sim_windows.proofs.stage.least_of.Given as goal

-- the least so far
abbrev pub invariant-loop-bound : goal.invariant-loop-bound
invariant-loop-bound l = l.least ≡ least_bound l.horizon (λ p. get_or l.bounds p 0) l.bound-index
