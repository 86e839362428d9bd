-- Each event that is added is inserted.
use Rattle.std.proofs.Common.{arith}
use Rattle.sim_phold.specs.Opening.{opening_events}
use Rattle.sim_phold.proofs.opening.events.Goals as goal

pub loop-event-init : goal.loop-event-init
unfolding opening_events
loop-event-init c = c.new-events.ensures

pub loop-event-preserved : goal.loop-event-preserved
unfolding opening_events
loop-event-preserved c = grind (arith, c.in_ok-push.ensures.added, c.loop-event.invariant, c.from.ensures)
