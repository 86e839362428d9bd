use Rattle.std.proofs.Common.{flat_map, length, ◌≡◌}
use Rattle.sim_exchange.proofs.remaining.next_filled.Given as goal

-- the lists so far have no elements
abbrev pub invariant-loop-list : goal.invariant-loop-list
invariant-loop-list g l = flat_map (λ v. v.items) l.fn.lists.items ≡ flat_map (λ v. v.items) l.lists.items

abbrev pub decreases-loop-list : goal.decreases-loop-list
decreases-loop-list g l = length l.lists.items
