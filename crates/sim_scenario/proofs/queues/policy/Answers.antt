use Rattle.std.proofs.Common.{refl}
use Rattle.sqs_formats.specs.Queues.{policy}
use Rattle.sqs_formats.specs.Reading.{and_then}
use Rattle.sim_scenario.proofs.Exits.{past, way_out}
use Rattle.sim_scenario.proofs.ListItems.{fails_first}
use Rattle.sim_scenario.proofs.queues.policy.Goals as goal

pub returns-in_err-dead_letter : goal.returns-in_err-dead_letter
unfolding policy
returns-in_err-dead_letter c = way_out _ _ _ _ c.from_residual.ensures.1 (rw c.if-not-leads.false (fails_first _ _ _ c.in_err-dead_letter.ensures))

pub returns-in_err-max_receives : goal.returns-in_err-max_receives
unfolding policy
returns-in_err-max_receives c = way_out _ _ _ _ c.from_residual-in_err-max_receives.ensures.1 (rw c.if-not-leads.false (past _ _ c.in_ok-dead_letter.ensures (fails_first _ _ _ c.in_err-max_receives.ensures)))

pub returns-in_err-latency : goal.returns-in_err-latency
unfolding policy
returns-in_err-latency c = way_out _ _ _ _ c.from_residual-in_err-latency.ensures.1 (rw c.if-not-leads.false (past _ _ c.in_ok-dead_letter.ensures (past _ _ c.in_ok-max_receives.ensures (fails_first _ _ _ (rw c.version.ensures at c.in_err-latency.ensures)))))

pub returns : goal.returns
unfolding policy and_then
returns c = rw (c.if-not-leads.false, c.in_ok-dead_letter.ensures, c.in_ok-max_receives.ensures, (rw c.version.ensures at c.in_ok-latency.ensures)) refl
