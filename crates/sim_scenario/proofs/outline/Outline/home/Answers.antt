use Rattle.std.proofs.Common.{◌-◌, ◌∙◌, ap, arith, drop, length, length-drop}
use Rattle.std.proofs.lemmas.List.{take_all}
use Rattle.std.specs.List.{enumerate_from, zip}
use Rattle.sqs_formats.specs.Actors.{tasks_at}
use Rattle.sim_scenario.proofs.outline.Outline.home.Goals as goal

pub returns : goal.returns
returns c =
    let place = c.self.inside.first_task_place in
    let shown = c.as_slice.result.now in
    let whole = take_all (length shown - place) (drop place shown) (omega (arith, length-drop place shown)) in
    let names = whole ∙ ap (λ names. drop place names) c.as_slice.ensures ∙ ap (λ o. o.tasks) c.self.view_is in
    let homes = c.deref.ensures.value ∙ ap (λ o. o.task_homes) c.self.view_is in
    let tasks = c.new.ensures ∙ c.in_ok-tasks.ensures ∙ (λ j. tasks_at (c.queue_text-name.ensures j) (enumerate_from (c.first_task-first.ensures.number j) (zip (names j) (homes j)))) in
    λ j. record { is_fifo = c.is_fifo_at-is_fifo.ensures j; tasks = tasks j }
