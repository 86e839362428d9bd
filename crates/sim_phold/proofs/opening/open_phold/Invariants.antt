use Rattle.std.specs.List.{range_with_len}
use Rattle.std.specs.Prelude.{flat_map, map}
use Rattle.std.proofs.Common.{◌≡◌}
use Rattle.sim_phold.specs.Opening.{opening_process, ways_from}
use Rattle.sim_phold.proofs.opening.open_phold.Given as goal

-- the processes that were gone through, and the ways from them
abbrev pub invariant-loop-number : goal.invariant-loop-number
invariant-loop-number l =
    let numbers = range_with_len 0 l.number in
    (l.sites.items ≡ map (opening_process l.workload) numbers) × (l.edges.items ≡ flat_map (ways_from l.workload) numbers)
