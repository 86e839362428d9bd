use Rattle.std.proofs.Common.{◌≡◌, drop, flat_map}
use Rattle.sim_clock.specs.Order.{least}
use Rattle.sqs_model.specs.Dues.{actor_dues}
use Rattle.sim_site.proofs.dues.least_wake_of.Given as goal

-- the least of those from here on
abbrev pub invariant-loop-i : goal.invariant-loop-i
invariant-loop-i l = l.best ≡ least (flat_map actor_dues (drop l.i l.actors))
