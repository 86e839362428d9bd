use Rattle.std.proofs.Common.{List, Global, Vec, ap, refl, subst, sym}
use Rattle.sim_clock.specs.Places.{Stands}
use Rattle.sqs_model.specs.Site.{is_task}
use Rattle.sqs_model.specs.Task.{Task}
use Rattle.sim_site.specs.contracts.state.Core.{the_view}
use Rattle.sim_site.proofs.Tasking.{cancel_done, cancel_refused}
use Rattle.sim_site.proofs.state.Core.cancel.Goals as goal
use Rattle.sqs_model.specs.Acts.{act_made}

pub returns-then-not-cancel_at : goal.returns-then-not-cancel_at
unfolding act_made
returns-then-not-cancel_at c a e =
    let stands = subst (λ (ts : List Task). Stands (is_task c.args.task) ts c.in-Some.place) c.deref.ensures.value c.in-Some.ensures in
    let same = ap (λ (v : Vec Task Global). v.items) (c.cancel_at.ensures.unchanged c.if-not-cancel_at.true) in (
      record { key = refl; agent = refl; effects = refl },
      rw (← c.self.view_is, same)
          (cancel_refused c.args.handling.now.key a (the_view c.self.inside) c.args.handling.now.effects.now c.say.new.self c.args.task c.task_row-row.result c.in_ok-say.ensures.rows c.in_ok-say.ensures.sent
          c.in-Some.place c.cancel_at.result stands c.cancel_at.ensures.ran c.if-not-cancel_at.true (c.task_row-row.ensures a (the_view c.self.inside) e (sym c.site-site.ensures))),
    )

pub returns : goal.returns
unfolding act_made
returns c a e = (
  record { key = refl; agent = refl; effects = refl },
  rw (← c.self.view_is)
      (cancel_done c.args.handling.now.key a (the_view c.self.inside) c.args.handling.now.effects.now c.say-2.new.self c.args.task c.task_row-row-2.result c.in_ok-say-2.ensures.rows c.in_ok-say-2.ensures.sent
      c.cancel_at.result c.cancel_at.new.tasks.items (c.cancel_at.ensures.cancelled c.if-not-cancel_at.false) c.cancel_at.ensures.ran c.if-not-cancel_at.false (c.task_row-row-2.ensures a (the_view c.self.inside) e (sym c.site-site.ensures))),
)
