use Rattle.std.proofs.Common.{◌≡◌}
use Rattle.sim_exchange.proofs.rows.all_of.Given as goal

-- the lists so far
abbrev pub invariant-loop-list : goal.invariant-loop-list
invariant-loop-list g l = l.remaining.items ≡ l.yielded
