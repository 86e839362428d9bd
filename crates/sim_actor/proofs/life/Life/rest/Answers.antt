use Rattle.sim_clock.specs.declared.refusal.Refusal.{Refusal}
use Rattle.sim_clock.specs.declared.refusal.Refusal.TheVariants as refusals
use Rattle.sqs_message.specs.declared.ids.Receipt.{Receipt}
use Rattle.sqs_model.specs.declared.acts.Act.{Act}
use Rattle.sqs_model.specs.Actor.{Actor}
use Rattle.sim_actor.specs.Lives.{Changes, Decides}
use Rattle.std.proofs.Common.{Err, rules, [], ap, sym, ◌∙◌, ◌≡◌}
use Rattle.sim_actor.specs.Holdings.{Holding}
use Rattle.sim_actor.proofs.life.Life.rest.Goals as goal

-- a timeout that is not drawn is no decision
changes_none : (receipt : Receipt) (e : Refusal) (new : Actor) (model : Act × Actor) → Changes receipt (Err e) new model → Decides (Err e) new model
changes_none receipt refusals.CountLimit new model h = h
changes_none receipt e new model h = absurd h

pub returns-in_err-timeout-clause-decision : goal.returns-in_err-timeout-clause-decision
returns-in_err-timeout-clause-decision c s at_home =
    let failed = changes_none c.in-Some.got.receipt _ _ _ (c.in_err-timeout.ensures.decision s) in
    rw (← c.self.view_is, c.in-Some.ensures) (search rules)

pub returns-in-Some-clause-decision : goal.returns-in-Some-clause-decision
returns-in-Some-clause-decision c s at_home = rw (← c.self.view_is, c.in-Some.ensures, c.from.ensures) (c.in_ok-timeout.ensures.decision s)

pub returns-in-Some-take_done-clause-decision : goal.returns-in-Some-take_done-clause-decision
returns-in-Some-take_done-clause-decision c s at_home =
    let none = c.in_default.ensures in
    let gone : c.take_done.new.self.failed ≡ [] = ap (λ (h : Holding). h.failed) (sym c.in-Some-take_done.ensures ∙ none.1) ∙ none.0 in
    rw (← c.self.view_is, none.0, ← none.1, c.in-Some-take_done.ensures) (rw gone at c.settle.ensures.decision s at_home)

pub returns-in-None-clause-decision : goal.returns-in-None-clause-decision
returns-in-None-clause-decision c s at_home =
    let none = c.in_default.ensures in
    let none_done = c.in-None.ensures in
    let none_left = rw none.1 at none_done.0 in
    rw (← c.self.view_is, none.0, none_left) (rw (none_done.1, none.1, none.0, none_left) at c.ask.ensures.decision s)
