use Rattle.std.specs.List.{range_with_len}
use Rattle.std.specs.Prelude.{map}
use Rattle.std.proofs.Common.{◌≡◌, ◌++◌}
use Rattle.sim_phold.specs.Opening.{way}
use Rattle.sim_phold.proofs.opening.add_ways.Given as goal

-- the ways to the processes that were gone through are behind those before
abbrev pub invariant-loop-to : goal.invariant-loop-to
invariant-loop-to l = l.edges.items ≡ l.fn.edges.items ++ map (way l.workload l.from) (range_with_len 0 l.to)
