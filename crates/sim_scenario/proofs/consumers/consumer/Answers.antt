use Rattle.std.proofs.Common.{◌∙◌, ap, codes, refl}
use Rattle.sqs_formats.specs.Keys.{has}
use Rattle.sqs_formats.specs.Reading.{and_then}
use Rattle.sim_scenario.proofs.Exits.{past, way_out}
use Rattle.sim_scenario.proofs.ListItems.{fails_first}
use Rattle.sim_scenario.proofs.consumers.consumer.Goals as goal

pub returns-in_err-known_consumer_keys : goal.returns-in_err-known_consumer_keys
returns-in_err-known_consumer_keys c = way_out _ _ _ _ c.from_residual.ensures.1 (fails_first _ _ _ (rw c.version-version.ensures at c.in_err-known_consumer_keys.ensures))

pub returns-in_err-start : goal.returns-in_err-start
returns-in_err-start c = way_out _ _ _ _ c.from_residual-in_err-start.ensures.1 (past _ _ (rw c.version-version.ensures at c.in_ok-known_consumer_keys.ensures) (fails_first _ _ _ c.in_err-start.ensures))

pub returns-in_err-batch : goal.returns-in_err-batch
returns-in_err-batch c = way_out _ _ _ _ c.from_residual-in_err-batch.ensures.1 (past _ _ (rw c.version-version.ensures at c.in_ok-known_consumer_keys.ensures) (past _ _ c.in_ok-start.ensures (fails_first _ _ _ c.in_err-batch.ensures)))

pub returns-in_err-gather : goal.returns-in_err-gather
returns-in_err-gather c = way_out _ _ _ _ c.from_residual-in_err-gather.ensures.1 (past _ _ (rw c.version-version.ensures at c.in_ok-known_consumer_keys.ensures) (past _ _ c.in_ok-start.ensures (past _ _ c.in_ok-batch.ensures (fails_first _ _ _ (rw (c.newer-newer.ensures, c.version-version.ensures) at c.in_err-gather.ensures)))))

pub returns-in_err-wait : goal.returns-in_err-wait
returns-in_err-wait c = way_out _ _ _ _ c.from_residual-in_err-wait.ensures.1 (past _ _ (rw c.version-version.ensures at c.in_ok-known_consumer_keys.ensures) (past _ _ c.in_ok-start.ensures (past _ _ c.in_ok-batch.ensures (past _ _ (rw (c.newer-newer.ensures, c.version-version.ensures) at c.in_ok-gather.ensures) (fails_first _ _ _ c.in_err-wait.ensures)))))

pub returns-in_err-timeout : goal.returns-in_err-timeout
returns-in_err-timeout c = way_out _ _ _ _ c.from_residual-in_err-timeout.ensures.1 (past _ _ (rw c.version-version.ensures at c.in_ok-known_consumer_keys.ensures) (past _ _ c.in_ok-start.ensures (past _ _ c.in_ok-batch.ensures (past _ _ (rw (c.newer-newer.ensures, c.version-version.ensures) at c.in_ok-gather.ensures) (past _ _ c.in_ok-wait.ensures (fails_first _ _ _ c.in_err-timeout.ensures))))))

pub returns-in_err-service : goal.returns-in_err-service
returns-in_err-service c = way_out _ _ _ _ c.from_residual-in_err-service.ensures.1 (past _ _ (rw c.version-version.ensures at c.in_ok-known_consumer_keys.ensures) (past _ _ c.in_ok-start.ensures (past _ _ c.in_ok-batch.ensures (past _ _ (rw (c.newer-newer.ensures, c.version-version.ensures) at c.in_ok-gather.ensures) (past _ _ c.in_ok-wait.ensures (past _ _ c.in_ok-timeout.ensures (fails_first _ _ _ (rw c.version-version.ensures at c.in_err-service.ensures))))))))

pub returns-in_err-serving : goal.returns-in_err-serving
returns-in_err-serving c = way_out _ _ _ _ c.from_residual-in_err-serving.ensures.1 (past _ _ (rw c.version-version.ensures at c.in_ok-known_consumer_keys.ensures) (past _ _ c.in_ok-start.ensures (past _ _ c.in_ok-batch.ensures (past _ _ (rw (c.newer-newer.ensures, c.version-version.ensures) at c.in_ok-gather.ensures) (past _ _ c.in_ok-wait.ensures (past _ _ c.in_ok-timeout.ensures (past _ _ (rw c.version-version.ensures at c.in_ok-service.ensures) (fails_first _ _ _ (rw (c.newer-newer.ensures, c.version-version.ensures) at c.in_err-serving.ensures)))))))))

pub returns-in_err-fail_service : goal.returns-in_err-fail_service
returns-in_err-fail_service c = way_out _ _ _ _ c.from_residual-in_err-fail_service.ensures.1 (past _ _ (rw c.version-version.ensures at c.in_ok-known_consumer_keys.ensures) (past _ _ c.in_ok-start.ensures (past _ _ c.in_ok-batch.ensures (past _ _ (rw (c.newer-newer.ensures, c.version-version.ensures) at c.in_ok-gather.ensures) (past _ _ c.in_ok-wait.ensures (past _ _ c.in_ok-timeout.ensures (past _ _ (rw c.version-version.ensures at c.in_ok-service.ensures) (past _ _ (rw (c.newer-newer.ensures, c.version-version.ensures) at c.in_ok-serving.ensures) (fails_first _ _ _ (rw (c.newer-newer.ensures, c.version-version.ensures) at c.in_err-fail_service.ensures))))))))))

pub returns-in_err-fail_permille : goal.returns-in_err-fail_permille
returns-in_err-fail_permille c = way_out _ _ _ _ c.from_residual-in_err-fail_permille.ensures.1 (past _ _ (rw c.version-version.ensures at c.in_ok-known_consumer_keys.ensures) (past _ _ c.in_ok-start.ensures (past _ _ c.in_ok-batch.ensures (past _ _ (rw (c.newer-newer.ensures, c.version-version.ensures) at c.in_ok-gather.ensures) (past _ _ c.in_ok-wait.ensures (past _ _ c.in_ok-timeout.ensures (past _ _ (rw c.version-version.ensures at c.in_ok-service.ensures) (past _ _ (rw (c.newer-newer.ensures, c.version-version.ensures) at c.in_ok-serving.ensures) (past _ _ (rw (c.newer-newer.ensures, c.version-version.ensures) at c.in_ok-fail_service.ensures) (fails_first _ _ _ c.in_err-fail_permille.ensures))))))))))

pub returns-in_err-idle : goal.returns-in_err-idle
returns-in_err-idle c = way_out _ _ _ _ c.from_residual-in_err-idle.ensures.1 (past _ _ (rw c.version-version.ensures at c.in_ok-known_consumer_keys.ensures) (past _ _ c.in_ok-start.ensures (past _ _ c.in_ok-batch.ensures (past _ _ (rw (c.newer-newer.ensures, c.version-version.ensures) at c.in_ok-gather.ensures) (past _ _ c.in_ok-wait.ensures (past _ _ c.in_ok-timeout.ensures (past _ _ (rw c.version-version.ensures at c.in_ok-service.ensures) (past _ _ (rw (c.newer-newer.ensures, c.version-version.ensures) at c.in_ok-serving.ensures) (past _ _ (rw (c.newer-newer.ensures, c.version-version.ensures) at c.in_ok-fail_service.ensures) (past _ _ c.in_ok-fail_permille.ensures (fails_first _ _ _ c.in_err-idle.ensures)))))))))))

pub returns-in_err-forward : goal.returns-in_err-forward
returns-in_err-forward c = way_out _ _ _ _ c.from_residual-in_err-forward.ensures.1 (past _ _ (rw c.version-version.ensures at c.in_ok-known_consumer_keys.ensures) (past _ _ c.in_ok-start.ensures (past _ _ c.in_ok-batch.ensures (past _ _ (rw (c.newer-newer.ensures, c.version-version.ensures) at c.in_ok-gather.ensures) (past _ _ c.in_ok-wait.ensures (past _ _ c.in_ok-timeout.ensures (past _ _ (rw c.version-version.ensures at c.in_ok-service.ensures) (past _ _ (rw (c.newer-newer.ensures, c.version-version.ensures) at c.in_ok-serving.ensures) (past _ _ (rw (c.newer-newer.ensures, c.version-version.ensures) at c.in_ok-fail_service.ensures) (past _ _ c.in_ok-fail_permille.ensures (past _ _ c.in_ok-idle.ensures (fails_first _ _ _ (rw c.has.ensures at c.in_err-forward.ensures)))))))))))))

pub returns-in_err-stop : goal.returns-in_err-stop
returns-in_err-stop c = way_out _ _ _ _ c.from_residual-in_err-stop.ensures.1 (past _ _ (rw c.version-version.ensures at c.in_ok-known_consumer_keys.ensures) (past _ _ c.in_ok-start.ensures (past _ _ c.in_ok-batch.ensures (past _ _ (rw (c.newer-newer.ensures, c.version-version.ensures) at c.in_ok-gather.ensures) (past _ _ c.in_ok-wait.ensures (past _ _ c.in_ok-timeout.ensures (past _ _ (rw c.version-version.ensures at c.in_ok-service.ensures) (past _ _ (rw (c.newer-newer.ensures, c.version-version.ensures) at c.in_ok-serving.ensures) (past _ _ (rw (c.newer-newer.ensures, c.version-version.ensures) at c.in_ok-fail_service.ensures) (past _ _ c.in_ok-fail_permille.ensures (past _ _ c.in_ok-idle.ensures (past _ _ (rw c.has.ensures at c.in_ok-forward.ensures) (fails_first _ _ _ (rw (c.newer-newer.ensures, c.version-version.ensures) at c.in_err-stop.ensures))))))))))))))

pub returns-in_err-scaling : goal.returns-in_err-scaling
returns-in_err-scaling c = way_out _ _ _ _ c.from_residual-in_err-scaling.ensures.1 (past _ _ (rw c.version-version.ensures at c.in_ok-known_consumer_keys.ensures) (past _ _ c.in_ok-start.ensures (past _ _ c.in_ok-batch.ensures (past _ _ (rw (c.newer-newer.ensures, c.version-version.ensures) at c.in_ok-gather.ensures) (past _ _ c.in_ok-wait.ensures (past _ _ c.in_ok-timeout.ensures (past _ _ (rw c.version-version.ensures at c.in_ok-service.ensures) (past _ _ (rw (c.newer-newer.ensures, c.version-version.ensures) at c.in_ok-serving.ensures) (past _ _ (rw (c.newer-newer.ensures, c.version-version.ensures) at c.in_ok-fail_service.ensures) (past _ _ c.in_ok-fail_permille.ensures (past _ _ c.in_ok-idle.ensures (past _ _ (rw c.has.ensures at c.in_ok-forward.ensures) (past _ _ (rw (c.newer-newer.ensures, c.version-version.ensures) at c.in_ok-stop.ensures) (fails_first _ _ _ (rw (c.has-2.ensures ∙ ap (λ t. has t (codes "scaler")) c.newer-newer.ensures, c.newer-newer.ensures, c.version-version.ensures) at c.in_err-scaling.ensures)))))))))))))))

pub returns-in_err-fails : goal.returns-in_err-fails
returns-in_err-fails c = way_out _ _ _ _ c.from_residual-in_err-fails.ensures.1 (past _ _ (rw c.version-version.ensures at c.in_ok-known_consumer_keys.ensures) (past _ _ c.in_ok-start.ensures (past _ _ c.in_ok-batch.ensures (past _ _ (rw (c.newer-newer.ensures, c.version-version.ensures) at c.in_ok-gather.ensures) (past _ _ c.in_ok-wait.ensures (past _ _ c.in_ok-timeout.ensures (past _ _ (rw c.version-version.ensures at c.in_ok-service.ensures) (past _ _ (rw (c.newer-newer.ensures, c.version-version.ensures) at c.in_ok-serving.ensures) (past _ _ (rw (c.newer-newer.ensures, c.version-version.ensures) at c.in_ok-fail_service.ensures) (past _ _ c.in_ok-fail_permille.ensures (past _ _ c.in_ok-idle.ensures (past _ _ (rw c.has.ensures at c.in_ok-forward.ensures) (past _ _ (rw (c.newer-newer.ensures, c.version-version.ensures) at c.in_ok-stop.ensures) (past _ _ (rw (c.has-2.ensures ∙ ap (λ t. has t (codes "scaler")) c.newer-newer.ensures, c.newer-newer.ensures, c.version-version.ensures) at c.in_ok-scaling.ensures) (fails_first _ _ _ (rw (c.newer-newer.ensures, c.version-version.ensures) at c.in_err-fails.ensures))))))))))))))))

pub returns : goal.returns
unfolding and_then
returns c = rw ((rw c.version-version.ensures at c.in_ok-known_consumer_keys.ensures), c.in_ok-start.ensures, c.in_ok-batch.ensures, (rw (c.newer-newer.ensures, c.version-version.ensures) at c.in_ok-gather.ensures), c.in_ok-wait.ensures, c.in_ok-timeout.ensures, (rw c.version-version.ensures at c.in_ok-service.ensures), (rw (c.newer-newer.ensures, c.version-version.ensures) at c.in_ok-serving.ensures), (rw (c.newer-newer.ensures, c.version-version.ensures) at c.in_ok-fail_service.ensures), c.in_ok-fail_permille.ensures, c.in_ok-idle.ensures, (rw c.has.ensures at c.in_ok-forward.ensures), (rw (c.newer-newer.ensures, c.version-version.ensures) at c.in_ok-stop.ensures), (rw (c.has-2.ensures ∙ ap (λ t. has t (codes "scaler")) c.newer-newer.ensures, c.newer-newer.ensures, c.version-version.ensures) at c.in_ok-scaling.ensures), (rw (c.newer-newer.ensures, c.version-version.ensures) at c.in_ok-fails.ensures)) refl
