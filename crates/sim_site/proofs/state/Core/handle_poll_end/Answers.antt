use Rattle.std.proofs.Common.{◌∙◌, subst, sym, refl}
use Rattle.sqs_model.specs.Site.{Core, Poll}
use Rattle.sqs_model.specs.Step.{ends_at, handle_poll_end}
use Rattle.sqs_model.specs.Valid.{MayBeTimeout}
use Rattle.sqs_model.proofs.Counts.{all_without}
use Rattle.sim_site.specs.Effects.{Does}
use Rattle.sim_site.specs.Kept.{AreAllowed}
use Rattle.sim_site.specs.contracts.state.Core.{the_view}
use Rattle.sim_site.proofs.Polling.{poll_end_does}
use Rattle.sim_site.proofs.state.Core.handle_poll_end.Goals as goal

pub returns : goal.returns
returns c =
    let handling = c.args.handling.now in
    let core : Core = the_view c.self.inside in
    subst (λ (x : Core). Does c.told.result handling c.told.new.handling c.told.new.self (handle_poll_end handling.key x)) c.self.view_is
    (poll_end_does c.told.result handling _ c.told.new.handling core c.told.new.self c.end.new.self c.new-2.result c.receive_row-row.result
    c.end.ensures (c.new-2.ensures ∙ c.new.ensures.items) (record { key = refl; agent = refl; effects = refl }) c.requires.agent c.in_ok-say.ensures.rows c.in_ok-say.ensures.sent (c.receive_row-row.ensures core (sym c.site-site.ensures)) c.told.ensures)

pub invariant_of-self : goal.invariant_of-self
invariant_of-self c =
    let kept : AreAllowed c.end.new.self = subst AreAllowed (sym c.end.ensures) (all_without (ends_at c.args.handling.now.key) (λ (p : Poll). MayBeTimeout p.timeout) c.self.inside.polls c.self.invariant.2) in
    (c.self.invariant.0, c.self.invariant.1, kept, c.self.invariant.3, c.self.invariant.4)
