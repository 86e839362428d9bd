use Rattle.std.proofs.Common.{None, get_or, map, ◌≡◌}
use Rattle.std.specs.List.{range_with_len}
use Rattle.sim_exchange.specs.Table.{distance_in}
use Rattle.sim_engine.specs.Bounds.{bound_by}
use Rattle.sim_windows.proofs.meeting.bounds_of.Given as goal

-- those so far
abbrev pub invariant-loop-part : goal.invariant-loop-part
invariant-loop-part l = l.bounds.items ≡ map (λ p. bound_by (distance_in l.distances) l.horizon (λ q. get_or l.dues q None) p l.distances.parts) (range_with_len 0 l.part)
