use Rattle.std.proofs.Common.{◌≤◌}
use Rattle.std.specs.List.{AllAdjacentBelow}
use Rattle.sqs_model.specs.Actor.{Actor}
use Rattle.sim_site.proofs.actors.are_in_order.Given as goal

-- the numbers so far
abbrev pub invariant-loop-i : goal.invariant-loop-i
invariant-loop-i l = record { some : 1 ≤ l.i; rise : AllAdjacentBelow (λ (x : Actor) (y : Actor). x.number ≤ y.number) l.actors l.i }
