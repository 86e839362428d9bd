use Rattle.std.proofs.Common.{refl}
use Rattle.std.proofs.lemmas.List.{length-map}
use Rattle.toml.specs.View.{view}
use Rattle.sqs_formats.specs.Scenario.{top}
use Rattle.sqs_formats.specs.Reading.{and_then}
use Rattle.sim_scenario.proofs.Exits.{past, way_out}
use Rattle.sim_scenario.proofs.ListItems.{fails_first}
use Rattle.sim_scenario.proofs.top.top_table.Goals as goal

pub returns-in_err-only-clause-value : goal.returns-in_err-only-clause-value
unfolding top
returns-in_err-only-clause-value c = way_out _ _ _ _ c.from_residual.ensures.1 (fails_first _ _ _ c.in_err-only.ensures)

pub returns-in_err-version-clause-value : goal.returns-in_err-version-clause-value
unfolding top
returns-in_err-version-clause-value c = way_out _ _ _ _ c.from_residual-in_err-version.ensures.1 (past _ _ c.in_ok-only.ensures (fails_first _ _ _ c.in_err-version.ensures))

pub returns-in_err-horizon-clause-value : goal.returns-in_err-horizon-clause-value
unfolding top
returns-in_err-horizon-clause-value c = way_out _ _ _ _ c.from_residual-in_err-horizon.ensures.1 (past _ _ c.in_ok-only.ensures (past _ _ c.in_ok-version.ensures (fails_first _ _ _ c.in_err-horizon.ensures)))

pub returns-in_err-seed-clause-value : goal.returns-in_err-seed-clause-value
unfolding top
returns-in_err-seed-clause-value c = way_out _ _ _ _ c.from_residual-in_err-seed.ensures.1 (past _ _ c.in_ok-only.ensures (past _ _ c.in_ok-version.ensures (past _ _ c.in_ok-horizon.ensures (fails_first _ _ _ c.in_err-seed.ensures))))

pub returns-in_err-sample-clause-value : goal.returns-in_err-sample-clause-value
unfolding top
returns-in_err-sample-clause-value c = way_out _ _ _ _ c.from_residual-in_err-sample.ensures.1 (past _ _ c.in_ok-only.ensures (past _ _ c.in_ok-version.ensures (past _ _ c.in_ok-horizon.ensures (past _ _ c.in_ok-seed.ensures (fails_first _ _ _ c.in_err-sample.ensures)))))

pub returns-in_err-queues-clause-value : goal.returns-in_err-queues-clause-value
unfolding top
returns-in_err-queues-clause-value c = way_out _ _ _ _ c.from_residual-in_err-queues.ensures.1 (past _ _ c.in_ok-only.ensures (past _ _ c.in_ok-version.ensures (past _ _ c.in_ok-horizon.ensures (past _ _ c.in_ok-seed.ensures (past _ _ c.in_ok-sample.ensures (fails_first _ _ _ c.in_err-queues.ensures.value))))))

pub returns-in_err-actors-clause-value : goal.returns-in_err-actors-clause-value
unfolding top
returns-in_err-actors-clause-value c = way_out _ _ _ _ c.from_residual-in_err-actors.ensures.1 (past _ _ c.in_ok-only.ensures (past _ _ c.in_ok-version.ensures (past _ _ c.in_ok-horizon.ensures (past _ _ c.in_ok-seed.ensures (past _ _ c.in_ok-sample.ensures (past _ _ c.in_ok-queues.ensures.value (fails_first _ _ _ c.in_err-actors.ensures.value)))))))

pub returns-in_err-tasks-clause-value : goal.returns-in_err-tasks-clause-value
unfolding top
returns-in_err-tasks-clause-value c = way_out _ _ _ _ c.from_residual-in_err-tasks.ensures.1 (past _ _ c.in_ok-only.ensures (past _ _ c.in_ok-version.ensures (past _ _ c.in_ok-horizon.ensures (past _ _ c.in_ok-seed.ensures (past _ _ c.in_ok-sample.ensures (past _ _ c.in_ok-queues.ensures.value (past _ _ c.in_ok-actors.ensures.value (fails_first _ _ _ (rw (← length-map c.in_ok-actors.actors.now view) at c.in_err-tasks.ensures.value)))))))))

pub returns-clause-value : goal.returns-clause-value
unfolding top and_then
returns-clause-value c = rw (c.in_ok-only.ensures, c.in_ok-version.ensures, c.in_ok-horizon.ensures, c.in_ok-seed.ensures, c.in_ok-sample.ensures, c.in_ok-queues.ensures.value, c.in_ok-actors.ensures.value, (rw (← length-map c.in_ok-actors.actors.now view) at c.in_ok-tasks.ensures.value)) refl
