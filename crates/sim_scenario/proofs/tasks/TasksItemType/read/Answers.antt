use Rattle.std.proofs.Common.{refl}
use Rattle.sqs_formats.specs.Tasks.{task}
use Rattle.sqs_formats.specs.Reading.{and_then}
use Rattle.sim_scenario.proofs.Exits.{past, way_out}
use Rattle.sim_scenario.proofs.ListItems.{fails_first}
use Rattle.sim_scenario.proofs.tasks.TasksItemType.read.Goals as goal

pub returns-in_err-name : goal.returns-in_err-name
unfolding task
returns-in_err-name c = way_out _ _ _ _ c.from_residual.ensures.1 (fails_first _ _ _ (rw c.task_place-place.ensures at c.in_err-name.ensures))

pub returns-in_err-home : goal.returns-in_err-home
unfolding task
returns-in_err-home c = way_out _ _ _ _ c.from_residual-in_err-home.ensures.1 (past _ _ (rw c.task_place-place.ensures at c.in_ok-name.ensures) (fails_first _ _ _ c.in_err-home.ensures))

pub returns-in_err-known_task_keys : goal.returns-in_err-known_task_keys
unfolding task
returns-in_err-known_task_keys c = way_out _ _ _ _ c.from_residual-in_err-known_task_keys.ensures.1 (past _ _ (rw c.task_place-place.ensures at c.in_ok-name.ensures) (past _ _ c.in_ok-home.ensures (fails_first _ _ _ (rw c.version.ensures at c.in_err-known_task_keys.ensures))))

pub returns-in_err-to : goal.returns-in_err-to
unfolding task
returns-in_err-to c = way_out _ _ _ _ c.from_residual-in_err-to.ensures.1 (past _ _ (rw c.task_place-place.ensures at c.in_ok-name.ensures) (past _ _ c.in_ok-home.ensures (past _ _ (rw c.version.ensures at c.in_ok-known_task_keys.ensures) (fails_first _ _ _ c.in_err-to.ensures))))

pub returns-in_err-per_second : goal.returns-in_err-per_second
unfolding task
returns-in_err-per_second c = way_out _ _ _ _ c.from_residual-in_err-per_second.ensures.1 (past _ _ (rw c.task_place-place.ensures at c.in_ok-name.ensures) (past _ _ c.in_ok-home.ensures (past _ _ (rw c.version.ensures at c.in_ok-known_task_keys.ensures) (past _ _ c.in_ok-to.ensures (fails_first _ _ _ c.in_err-per_second.ensures)))))

pub returns-in_err-latency : goal.returns-in_err-latency
unfolding task
returns-in_err-latency c = way_out _ _ _ _ c.from_residual-in_err-latency.ensures.1 (past _ _ (rw c.task_place-place.ensures at c.in_ok-name.ensures) (past _ _ c.in_ok-home.ensures (past _ _ (rw c.version.ensures at c.in_ok-known_task_keys.ensures) (past _ _ c.in_ok-to.ensures (past _ _ c.in_ok-per_second.ensures (fails_first _ _ _ (rw c.version-2.ensures at c.in_err-latency.ensures)))))))

pub returns : goal.returns
unfolding task and_then
returns c = rw ((rw c.task_place-place.ensures at c.in_ok-name.ensures), c.in_ok-home.ensures, (rw c.version.ensures at c.in_ok-known_task_keys.ensures), c.in_ok-to.ensures, c.in_ok-per_second.ensures, (rw c.version-2.ensures at c.in_ok-latency.ensures)) refl
