use Rattle.std.proofs.Common.{None, get_or, ◌+◌, ◌≡◌, ◌≤◌}
use Rattle.sim_engine.specs.Bounds.{bound_by}
use Rattle.sim_exchange.specs.Table.{distance_in}
use Rattle.sim_exchange.proofs.distances.Distances.bound.Given as goal

-- the bound by the dues so far
abbrev pub invariant-loop-from : goal.invariant-loop-from
invariant-loop-from l = record {
  bound : l.bound ≡ bound_by (distance_in l.self) l.horizon (λ q. get_or l.dues q None) l.part l.from;
  most : l.bound ≤ l.horizon + 1;
}
