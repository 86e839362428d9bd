use Rattle.std.proofs.Common.{refl}
use Rattle.sqs_formats.specs.Actors.{failing}
use Rattle.sqs_formats.specs.Reading.{and_then}
use Rattle.sim_scenario.proofs.Exits.{past, way_out}
use Rattle.sim_scenario.proofs.ListItems.{fails_first}
use Rattle.sim_scenario.proofs.consumers.failing.Goals as goal

pub returns-in_err-fails_on : goal.returns-in_err-fails_on
unfolding failing
returns-in_err-fails_on c = way_out _ _ _ _ c.from_residual.ensures.1 (fails_first _ _ _ c.in_err-fails_on.ensures)

pub returns-in_err-outages : goal.returns-in_err-outages
unfolding failing
returns-in_err-outages c = way_out _ _ _ _ c.from_residual-in_err-outages.ensures.1 (past _ _ c.in_ok-fails_on.ensures (fails_first _ _ _ c.in_err-outages.ensures))

pub returns-in_err-whole : goal.returns-in_err-whole
unfolding failing
returns-in_err-whole c = way_out _ _ _ _ c.from_residual-in_err-whole.ensures.1 (past _ _ c.in_ok-fails_on.ensures (past _ _ c.in_ok-outages.ensures (fails_first _ _ _ c.in_err-whole.ensures)))

pub returns-in_err-backoff : goal.returns-in_err-backoff
unfolding failing
returns-in_err-backoff c = way_out _ _ _ _ c.from_residual-in_err-backoff.ensures.1 (past _ _ c.in_ok-fails_on.ensures (past _ _ c.in_ok-outages.ensures (past _ _ c.in_ok-whole.ensures (fails_first _ _ _ (rw c.no_integers-none.ensures at c.in_err-backoff.ensures)))))

pub returns-in_err-jitter : goal.returns-in_err-jitter
unfolding failing
returns-in_err-jitter c = way_out _ _ _ _ c.from_residual-in_err-jitter.ensures.1 (past _ _ c.in_ok-fails_on.ensures (past _ _ c.in_ok-outages.ensures (past _ _ c.in_ok-whole.ensures (past _ _ (rw c.no_integers-none.ensures at c.in_ok-backoff.ensures) (fails_first _ _ _ c.in_err-jitter.ensures)))))

pub returns-in_err-heartbeat : goal.returns-in_err-heartbeat
unfolding failing
returns-in_err-heartbeat c = way_out _ _ _ _ c.from_residual-in_err-heartbeat.ensures.1 (past _ _ c.in_ok-fails_on.ensures (past _ _ c.in_ok-outages.ensures (past _ _ c.in_ok-whole.ensures (past _ _ (rw c.no_integers-none.ensures at c.in_ok-backoff.ensures) (past _ _ c.in_ok-jitter.ensures (fails_first _ _ _ c.in_err-heartbeat.ensures))))))

pub returns : goal.returns
unfolding failing and_then
returns c = rw (c.in_ok-fails_on.ensures, c.in_ok-outages.ensures, c.in_ok-whole.ensures, (rw c.no_integers-none.ensures at c.in_ok-backoff.ensures), c.in_ok-jitter.ensures, c.in_ok-heartbeat.ensures) refl
