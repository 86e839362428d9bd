use Rattle.std.proofs.Common.{flat_map, ◌≡◌}
use Rattle.sim_exchange.proofs.lists.Lists.into_one.Given as goal

-- the elements so far
abbrev pub invariant-loop-list : goal.invariant-loop-list
invariant-loop-list g l = l.all.items ≡ flat_map (λ v. v.items) l.yielded
