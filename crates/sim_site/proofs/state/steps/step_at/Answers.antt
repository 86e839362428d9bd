use Rattle.std.proofs.Common.{List, subst, sym}
use Rattle.std.specs.Prelude.{get_or, length, set, ℕ, ◌≡◌}
use Rattle.sqs_redrive.specs.declared.settings.TaskSettings.{TaskSettings}
use Rattle.sqs_model.specs.Site.{is_task}
use Rattle.sqs_model.specs.Step.{moves, step_moved}
use Rattle.sqs_model.specs.Task.{Task}
use Rattle.sqs_model.specs.Valid.{IsLatency}
use Rattle.sim_clock.specs.Places.{Stands}
use Rattle.sim_site.specs.Effects.{Does}
use Rattle.sim_site.specs.Kept.{numbered_settings}
use Rattle.sim_site.proofs.Rewriting.{settings_at, task_at}
use Rattle.sim_site.proofs.Stepping.{step_does}
use Rattle.sim_site.proofs.Turning.{all_found}
use Rattle.sim_site.proofs.state.steps.step_at.Goals as goal

pub step-requires-clause-latency : goal.step-requires-clause-latency
step-requires-clause-latency c =
    let n = c.args.handling.now.key.agent in
    all_found (is_task n) numbered_settings (λ (x : ℕ × TaskSettings). IsLatency x.1.latency) c.args.tasks.now.items c.index_mut.result.now c.requires.latencies
    (task_at n c.args.tasks.now.items c.args.place c.requires.place c.index_mut.result.now c.index_mut.ensures.value)

pub returns-clause-stepped : goal.returns-clause-stepped
returns-clause-stepped c core t n tasks found =
    let handling = c.args.handling.now in
    let one : Task = c.index_mut.result.now in
    let stands = subst (λ (ts : List Task). Stands (is_task handling.key.agent) ts c.args.place) (sym tasks) c.requires.place in
    let there = subst (λ (ts : List Task). one ≡ get_or ts c.args.place one) (sym tasks) c.index_mut.ensures.value in
    subst (λ (ts : List Task). Does c.step.result handling c.step.new.handling (record core { tasks = set ts c.args.place c.step.new.self }) (step_moved handling.key core (length c.args.loads.items) c.args.rest (moves handling.key core t c.args.loads.items))) tasks
    (step_does c.step.result handling c.step.new.handling core c.args.site one t c.step.new.self c.args.loads.items c.args.rest c.args.place n stands there found c.step.ensures.settings c.step.ensures.stepped)

pub returns-clause-settings : goal.returns-clause-settings
returns-clause-settings c =
    settings_at c.args.handling.now.key.agent c.args.tasks.now.items c.args.place c.requires.place c.index_mut.result.now c.index_mut.ensures.value c.step.new.self c.step.ensures.settings
