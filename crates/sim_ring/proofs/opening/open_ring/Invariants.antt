use Rattle.std.specs.List.{range_with_len}
use Rattle.std.specs.Prelude.{map}
use Rattle.std.proofs.Common.{◌≡◌}
use Rattle.sim_ring.specs.Opening.{opening_counter, way_from}
use Rattle.sim_ring.proofs.opening.open_ring.Given as goal

-- as many counters and ways as were gone through, of the ring of so many
abbrev pub invariant-loop-number : goal.invariant-loop-number
invariant-loop-number l =
    let numbers = range_with_len 0 l.number in
    let counters = map (opening_counter l.counters l.apart) numbers in
    let ways = map (way_from l.counters l.apart) numbers in
    (l.sites.items ≡ counters) × (l.edges.items ≡ ways)
