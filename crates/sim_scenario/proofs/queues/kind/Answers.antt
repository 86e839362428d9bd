use Rattle.std.proofs.Common.{refl}
use Rattle.sqs_formats.specs.Queues.{kind}
use Rattle.sqs_formats.specs.Reading.{and_then}
use Rattle.sim_scenario.proofs.Exits.{past, way_out}
use Rattle.sim_scenario.proofs.ListItems.{fails_first}
use Rattle.sim_scenario.proofs.queues.kind.Goals as goal

pub returns-in_err-content_dedup : goal.returns-in_err-content_dedup
unfolding kind
returns-in_err-content_dedup c = way_out _ _ _ _ c.from_residual.ensures.1 (rw c.if-is_fifo.true (fails_first _ _ _ c.in_err-content_dedup.ensures))

pub returns-in_err-scope : goal.returns-in_err-scope
unfolding kind
returns-in_err-scope c = way_out _ _ _ _ c.from_residual-in_err-scope.ensures.1 (rw c.if-is_fifo.true (past _ _ c.in_ok-content_dedup.ensures (fails_first _ _ _ c.in_err-scope.ensures)))

pub returns-in_ok-scope : goal.returns-in_ok-scope
unfolding kind and_then
returns-in_ok-scope c = rw (c.if-is_fifo.true, c.in_ok-content_dedup.ensures, c.in_ok-scope.ensures) refl

pub returns-in_err-hosts : goal.returns-in_err-hosts
unfolding kind
returns-in_err-hosts c = way_out _ _ _ _ c.from_residual-in_err-hosts.ensures.1 (rw c.if-is_fifo.false (fails_first _ _ _ c.in_err-hosts.ensures))

pub returns-in_err-sampled : goal.returns-in_err-sampled
unfolding kind
returns-in_err-sampled c = way_out _ _ _ _ c.from_residual-in_err-sampled.ensures.1 (rw c.if-is_fifo.false (past _ _ c.in_ok-hosts.ensures (fails_first _ _ _ c.in_err-sampled.ensures)))

pub returns-in_ok-sampled : goal.returns-in_ok-sampled
unfolding kind and_then
returns-in_ok-sampled c = rw (c.if-is_fifo.false, c.in_ok-hosts.ensures, c.in_ok-sampled.ensures) refl
