use Rattle.std.proofs.Common.{◌∙◌, ap, refl, subst, sym}
use Rattle.sqs_redrive.specs.declared.answers.Sent.{Sent}
use Rattle.sqs_redrive.specs.declared.answers.Sent.TheVariants as sent
use Rattle.sqs_model.specs.Arrive.{arrived}
use Rattle.sqs_model.specs.Site.{Core, with_queue}
use Rattle.sqs_model.specs.Step.{arrival_done}
use Rattle.sim_site.specs.Effects.{Did}
use Rattle.sim_site.specs.contracts.state.Core.{the_view}
use Rattle.sim_site.proofs.Arriving.{new_expires, new_stays, repeat_did}
use Rattle.sim_site.proofs.state.Core.arrive.Goals as goal

pub returns-then-not-expired : goal.returns-then-not-expired
returns-then-not-expired c =
    let h = c.in_ok-sent.ensures.arrived ∙ ap (λ (s : Sent). ((s, c.in_ok-sent.expired), c.arrive_by.new.queue)) c.in-New.is ∙ ap (λ b. ((sent.New c.in-New.id, b), c.arrive_by.new.queue)) c.if-not-expired.true in (
      record { key = refl; agent = refl; effects = refl },
      subst (λ (x : Core). Did c.args.handling.now.effects.now c.say-in-New.new.self (with_queue (the_view c.self.inside) c.arrive_by.new.queue) (arrival_done c.args.handling.now.key c.args.load x (arrived x.queue c.args.handling.now.key.at c.args.load))) c.self.view_is
          (new_stays c.args.handling.now.key c.args.load (the_view c.self.inside) c.args.handling.now.effects.now c.say-in-New.new.self c.arrive_by.new.queue c.in-New.id c.arrival_row-row-in-New.result h c.in_ok-say-in-New.ensures.rows c.in_ok-say-in-New.ensures.sent
          (c.arrival_row-row-in-New.ensures (the_view c.self.inside) c.args.load (sym c.site-site.ensures) (c.origin_of-origin.ensures c.in-New.id))),
    )

pub returns : goal.returns
returns c =
    let h = c.in_ok-sent.ensures.arrived ∙ ap (λ (s : Sent). ((s, c.in_ok-sent.expired), c.arrive_by.new.queue)) c.in-New.is ∙ ap (λ b. ((sent.New c.in-New.id, b), c.arrive_by.new.queue)) c.if-not-expired.false in (
      record { key = refl; agent = refl; effects = refl },
      subst (λ (x : Core). Did c.args.handling.now.effects.now c.say-in-New-2.new.self (with_queue (the_view c.self.inside) c.arrive_by.new.queue) (arrival_done c.args.handling.now.key c.args.load x (arrived x.queue c.args.handling.now.key.at c.args.load))) c.self.view_is
          (new_expires c.args.handling.now.key c.args.load (the_view c.self.inside) c.args.handling.now.effects.now c.say-in-New.new.self c.say-in-New-2.new.self c.arrive_by.new.queue c.in-New.id c.arrival_row-row-in-New.result c.site_row-row.result h c.in_ok-say-in-New.ensures.rows c.in_ok-say-in-New.ensures.sent
          (c.arrival_row-row-in-New.ensures (the_view c.self.inside) c.args.load (sym c.site-site.ensures) (c.origin_of-origin.ensures c.in-New.id))
          c.in_ok-say-in-New-2.ensures.rows c.in_ok-say-in-New-2.ensures.sent (rw (c.site_row-row.ensures, c.site-site.ensures, c.age_of-age.ensures) refl)),
    )

pub returns-in-Repeat : goal.returns-in-Repeat
returns-in-Repeat c =
    let h = c.in_ok-sent.ensures.arrived ∙ ap (λ (s : Sent). ((s, c.in_ok-sent.expired), c.arrive_by.new.queue)) c.in-Repeat.is in (
      record { key = refl; agent = refl; effects = refl },
      subst (λ (x : Core). Did c.args.handling.now.effects.now c.say.new.self (with_queue (the_view c.self.inside) c.arrive_by.new.queue) (arrival_done c.args.handling.now.key c.args.load x (arrived x.queue c.args.handling.now.key.at c.args.load))) c.self.view_is
          (repeat_did c.args.handling.now.key c.args.load (the_view c.self.inside) c.args.handling.now.effects.now c.say.new.self c.arrive_by.new.queue c.in-Repeat.id c.in_ok-sent.expired c.arrival_row-row.result h c.in_ok-say-in-Repeat.ensures.rows c.in_ok-say-in-Repeat.ensures.sent
          (c.arrival_row-row.ensures (the_view c.self.inside) c.args.load (sym c.site-site.ensures) (c.origin_of-origin.ensures c.in-Repeat.id))),
    )
