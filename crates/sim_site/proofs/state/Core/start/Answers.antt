use Rattle.std.proofs.Common.{◌≡◌, ◌∙◌, true, false, List, ap, refl, subst, sym}
use Rattle.std.specs.List.{list_any}
use Rattle.sqs_model.specs.Acts.{runs, act_made}
use Rattle.sim_clock.specs.Places.{Stands}
use Rattle.sqs_model.specs.Site.{is_task}
use Rattle.sqs_model.specs.Task.{Task}
use Rattle.sim_site.specs.contracts.state.Core.{the_view}
use Rattle.sim_site.proofs.Tasking.{start_done, start_refused}
use Rattle.sim_site.proofs.state.Core.start.Goals as goal

pub returns-then-any_runs : goal.returns-then-any_runs
unfolding act_made
returns-then-any_runs c a e =
    let any : list_any runs c.self.inside.tasks.items ≡ true = ap (list_any runs) (sym c.deref-2.ensures.value) ∙ sym c.any_runs.ensures ∙ c.if-any_runs.true in
    let stands = subst (λ (ts : List Task). Stands (is_task c.args.task) ts c.in-Some.place) c.deref.ensures.value c.in-Some.ensures in (
      record { key = refl; agent = refl; effects = refl },
      rw (← c.self.view_is)
          (start_refused c.args.handling.now.key a (the_view c.self.inside) c.args.handling.now.effects.now c.say.new.self c.args.task c.task_row-row.result c.in_ok-say.ensures.rows c.in_ok-say.ensures.sent
          c.in-Some.place stands any (c.task_row-row.ensures a (the_view c.self.inside) e (sym c.site-site.ensures))),
    )

pub returns : goal.returns
unfolding act_made
returns c a e =
    let none : list_any runs c.self.inside.tasks.items ≡ false = ap (list_any runs) (sym c.deref-2.ensures.value) ∙ sym c.any_runs.ensures ∙ c.if-any_runs.false in (
      record { key = refl; agent = refl; effects = refl },
      rw (← c.self.view_is)
          (start_done c.args.handling.now.key a (the_view c.self.inside) c.args.handling.now.effects.now c.say-2.new.self c.args.task c.task_row-row-2.result c.in_ok-say-2.ensures.rows c.in_ok-say-2.ensures.sent
          c.start_at.new.tasks.items c.start_at.ensures.started none (c.task_row-row-2.ensures a (the_view c.self.inside) e (sym c.site-site.ensures))),
    )
