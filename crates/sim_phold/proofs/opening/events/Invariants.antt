use Rattle.std.proofs.Common.{◌≡◌}
use Rattle.sim_phold.specs.Opening.{opening_events}
use Rattle.sim_phold.proofs.opening.events.Given as goal

-- as many events as were gone through
abbrev pub invariant-loop-event : goal.invariant-loop-event
invariant-loop-event l = l.events ≡ opening_events l.number l.event
