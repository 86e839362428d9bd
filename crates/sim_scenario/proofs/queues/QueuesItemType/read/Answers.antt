use Rattle.std.proofs.Common.{refl}
use Rattle.sqs_formats.specs.Queues.{queue}
use Rattle.sqs_formats.specs.Reading.{and_then}
use Rattle.sim_scenario.proofs.Exits.{past, way_out}
use Rattle.sim_scenario.proofs.ListItems.{fails_first}
use Rattle.sim_scenario.proofs.queues.QueuesItemType.read.Goals as goal

pub returns-in_err-name : goal.returns-in_err-name
unfolding queue
returns-in_err-name c = way_out _ _ _ _ c.from_residual.ensures.1 (fails_first _ _ _ c.in_err-name.ensures)

pub returns-in_err-known_queue_keys : goal.returns-in_err-known_queue_keys
unfolding queue
returns-in_err-known_queue_keys c = way_out _ _ _ _ c.from_residual-in_err-known_queue_keys.ensures.1 (past _ _ c.in_ok-name.ensures (fails_first _ _ _ (rw (c.version.ensures, c.is_fifo-is_fifo.ensures, c.as_bytes.ensures) at c.in_err-known_queue_keys.ensures)))

pub returns-in_err-visibility : goal.returns-in_err-visibility
unfolding queue
returns-in_err-visibility c = way_out _ _ _ _ c.from_residual-in_err-visibility.ensures.1 (past _ _ c.in_ok-name.ensures (past _ _ (rw (c.version.ensures, c.is_fifo-is_fifo.ensures, c.as_bytes.ensures) at c.in_ok-known_queue_keys.ensures) (fails_first _ _ _ c.in_err-visibility.ensures)))

pub returns-in_err-delay : goal.returns-in_err-delay
unfolding queue
returns-in_err-delay c = way_out _ _ _ _ c.from_residual-in_err-delay.ensures.1 (past _ _ c.in_ok-name.ensures (past _ _ (rw (c.version.ensures, c.is_fifo-is_fifo.ensures, c.as_bytes.ensures) at c.in_ok-known_queue_keys.ensures) (past _ _ c.in_ok-visibility.ensures (fails_first _ _ _ c.in_err-delay.ensures))))

pub returns-in_err-retention : goal.returns-in_err-retention
unfolding queue
returns-in_err-retention c = way_out _ _ _ _ c.from_residual-in_err-retention.ensures.1 (past _ _ c.in_ok-name.ensures (past _ _ (rw (c.version.ensures, c.is_fifo-is_fifo.ensures, c.as_bytes.ensures) at c.in_ok-known_queue_keys.ensures) (past _ _ c.in_ok-visibility.ensures (past _ _ c.in_ok-delay.ensures (fails_first _ _ _ c.in_err-retention.ensures)))))

pub returns-in_err-in_flight_limit : goal.returns-in_err-in_flight_limit
unfolding queue
returns-in_err-in_flight_limit c = way_out _ _ _ _ c.from_residual-in_err-in_flight_limit.ensures.1 (past _ _ c.in_ok-name.ensures (past _ _ (rw (c.version.ensures, c.is_fifo-is_fifo.ensures, c.as_bytes.ensures) at c.in_ok-known_queue_keys.ensures) (past _ _ c.in_ok-visibility.ensures (past _ _ c.in_ok-delay.ensures (past _ _ c.in_ok-retention.ensures (fails_first _ _ _ c.in_err-in_flight_limit.ensures))))))

pub returns-in_err-kind : goal.returns-in_err-kind
unfolding queue
returns-in_err-kind c = way_out _ _ _ _ c.from_residual-in_err-kind.ensures.1 (past _ _ c.in_ok-name.ensures (past _ _ (rw (c.version.ensures, c.is_fifo-is_fifo.ensures, c.as_bytes.ensures) at c.in_ok-known_queue_keys.ensures) (past _ _ c.in_ok-visibility.ensures (past _ _ c.in_ok-delay.ensures (past _ _ c.in_ok-retention.ensures (past _ _ c.in_ok-in_flight_limit.ensures (fails_first _ _ _ (rw (c.is_fifo-is_fifo.ensures, c.as_bytes.ensures) at c.in_err-kind.ensures))))))))

pub returns-in_err-policy : goal.returns-in_err-policy
unfolding queue
returns-in_err-policy c = way_out _ _ _ _ c.from_residual-in_err-policy.ensures.1 (past _ _ c.in_ok-name.ensures (past _ _ (rw (c.version.ensures, c.is_fifo-is_fifo.ensures, c.as_bytes.ensures) at c.in_ok-known_queue_keys.ensures) (past _ _ c.in_ok-visibility.ensures (past _ _ c.in_ok-delay.ensures (past _ _ c.in_ok-retention.ensures (past _ _ c.in_ok-in_flight_limit.ensures (past _ _ (rw (c.is_fifo-is_fifo.ensures, c.as_bytes.ensures) at c.in_ok-kind.ensures) (fails_first _ _ _ (rw c.has.ensures at c.in_err-policy.ensures)))))))))

pub returns : goal.returns
unfolding queue and_then
returns c = rw (c.in_ok-name.ensures, (rw (c.version.ensures, c.is_fifo-is_fifo.ensures, c.as_bytes.ensures) at c.in_ok-known_queue_keys.ensures), c.in_ok-visibility.ensures, c.in_ok-delay.ensures, c.in_ok-retention.ensures, c.in_ok-in_flight_limit.ensures, (rw (c.is_fifo-is_fifo.ensures, c.as_bytes.ensures) at c.in_ok-kind.ensures), (rw c.has.ensures at c.in_ok-policy.ensures)) refl
