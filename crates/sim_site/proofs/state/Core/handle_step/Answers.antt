use Rattle.std.specs.Prelude.{List, Some}
use Rattle.std.proofs.Common.{ap, refl, subst, sym, ◌≡◌, ◌∙◌}
use Rattle.sqs_redrive.specs.declared.settings.TaskSettings.{TaskSettings}
use Rattle.sim_clock.specs.Places.{Stands}
use Rattle.sqs_model.specs.Dues.{core_dues}
use Rattle.sqs_model.specs.Queue.{Queue}
use Rattle.sqs_model.specs.Site.{Core, is_task, task_numbered, with_queue}
use Rattle.sqs_model.specs.Step.{handle_step, handle_taken}
use Rattle.sqs_model.specs.Task.{Task, take_movable}
use Rattle.sim_site.specs.Due.{IsAmong}
use Rattle.sim_site.specs.Effects.{Does}
use Rattle.sim_site.specs.contracts.state.Core.{the_view}
use Rattle.sim_site.proofs.Due.{due_runs}
use Rattle.sim_site.proofs.Rewriting.{task_at}
use Rattle.sim_site.proofs.state.Core.handle_step.Goals as goal

pub step_at-requires-clause-running : goal.step_at-requires-clause-running
step_at-requires-clause-running c =
    let key = c.args.handling.now.key in
    due_runs (the_view c.self.inside) key c.self.invariant.0.numbered c.requires.class (subst (λ (x : Core). IsAmong (core_dues x) key) (sym c.self.view_is) c.requires.due)

pub returns : goal.returns
returns c =
    let handling = c.args.handling.now in
    let key = handling.key in
    let core : Core = the_view c.self.inside in
    let q : Queue = c.take_movable.new.self in
    let t : Task = c.index.result.now in
    let stands = subst (λ (ts : List Task). Stands (is_task key.agent) ts c.in-Some.place) c.deref.ensures.value c.in-Some.ensures in
    let found : task_numbered key.agent core ≡ Some t = task_at key.agent core.tasks c.in-Some.place stands t c.index.ensures in
    let taken : take_movable core.queue t.move.settings.per_second t.move.settings.to ≡ ((c.in_ok-loads.loads.items, c.in_ok-loads.rest), q) =
    ap (λ (s : TaskSettings). take_movable core.queue s.per_second s.to) (sym c.settings-settings.ensures) ∙ c.in_ok-loads.ensures.taken in
    let site = c.in_ok-loads.ensures.framed.site ∙ sym c.site-site.ensures in
    subst (λ (x : Core). Does c.step_at.result handling c.step_at.new.handling (record core { queue = q; tasks = c.step_at.new.tasks.items }) (handle_step key x (task_numbered key.agent x))) c.self.view_is
    (subst (λ o. Does c.step_at.result handling c.step_at.new.handling (record core { queue = q; tasks = c.step_at.new.tasks.items }) (handle_step key core o)) (sym found)
    (subst (λ x. Does c.step_at.result handling c.step_at.new.handling (record core { queue = q; tasks = c.step_at.new.tasks.items }) (handle_taken key core t x)) (sym taken)
    (c.step_at.ensures.stepped (with_queue core q) t site refl found)))
