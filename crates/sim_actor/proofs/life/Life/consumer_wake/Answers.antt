use Rattle.std.proofs.Common.{List, None, [], ap, arith, sym, ◌+◌, ◌∙◌, ◌≡◌, ◌∷◌}
use Rattle.sqs_redrive.specs.declared.answers.Got.{Got}
use Rattle.sqs_model.specs.Actor.{asks_for_more, woken}
use Rattle.sqs_model.proofs.ConsumerWakes.{consumer_woke}
use Rattle.sim_actor.specs.Holdings.{Holding}
use Rattle.sim_actor.specs.Lives.{Life, last_act_of, lived}
use Rattle.sim_actor.proofs.Batches.{none_first, some_first}
use Rattle.sim_actor.proofs.life.Life.consumer_wake.Goals as goal

pub returns-then-self-eq-MOST_COUNT-clause-decision : goal.returns-then-self-eq-MOST_COUNT-clause-decision
returns-then-self-eq-MOST_COUNT-clause-decision c s at_home =
    let woke = (consumer_woke c.args.now (woken (lived s c.args.self.now)) c.args.consumer.now c.args.self.now.held).stays.wakes in
    let at_most = ap (λ (l : Life). l.wakes) (sym c.self.view_is) ∙ c.if-self-eq-MOST_COUNT.true in
    omega (arith, woke, at_most)

pub returns-then-is_empty-clause-decision : goal.returns-then-is_empty-clause-decision
returns-then-is_empty-clause-decision c s at_home =
    let none = c.is_empty.ensures.0 c.if-is_empty.true in
    let counted = c.self-2.view_is ∙ c.count_wake.ensures in
    let held : c.args.self.now.held ≡ [] = sym (ap (λ (l : Life). l.held) counted) ∙ ap (λ (h : Holding). h.held) none in
    let done : c.args.self.now.done ≡ [] = sym (ap (λ (l : Life). l.done) counted) ∙ ap (λ (h : Holding). h.done) none in
    let failed : c.args.self.now.failed ≡ [] = sym (ap (λ (l : Life). l.failed) counted) ∙ ap (λ (h : Holding). h.failed) none in
    rw (held, done, failed) (rw (c.count_wake.ensures, held, done, failed) at c.ask.ensures.decision s)

pub returns-in_default-clause-decision : goal.returns-in_default-clause-decision
returns-in_default-clause-decision c s at_home =
    let same : c.count_wake.new.self.held ≡ c.args.self.now.held = ap (λ (l : Life). l.held) c.count_wake.ensures in
    let none : c.args.self.now.held ≡ [] = sym same ∙ ap (λ (l : Life). l.held) (sym c.self-2.view_is) ∙ none_first c.self-2.inside.holding.held c.in_default.ensures in
    rw none (rw (c.count_wake.ensures, none) at c.rest.ensures.decision s at_home)

pub returns-clause-decision : goal.returns-clause-decision
returns-clause-decision c s at_home =
    let first = some_first c.self-2.inside.holding.held c.in-Some.got.now c.in-Some.ensures in
    let counted : c.count_wake.new.self.held ≡ c.in-Some.got.now ∷ first.0 = ap (λ (l : Life). l.held) (sym c.self-2.view_is) ∙ first.1 in
    let held : c.args.self.now.held ≡ c.in-Some.got.now ∷ first.0 = sym (ap (λ (l : Life). l.held) c.count_wake.ensures) ∙ counted in
    let ends : c.self-2.inside.ends ≡ c.args.self.now.ends = ap (λ (l : Life). l.ends) (c.self-2.view_is ∙ c.count_wake.ensures) in
    let not_on = rw ends at c.if-goes_on.ensures in
    let last : last_act_of c.self-2.inside.last_act ≡ c.args.self.now.last_act = ap (λ (l : Life). l.last_act) (c.self-2.view_is ∙ c.count_wake.ensures) in
    let serves = rw last at c.if-is_gathering.ensures in
    let ended = c.end_service.ensures.decision s c.in-Some.got.now first.0 at_home counted in
    rw (held, ← serves, ← not_on) (rw c.count_wake.ensures at ended)

pub returns-then-is_gathering-clause-decision : goal.returns-then-is_gathering-clause-decision
returns-then-is_gathering-clause-decision c s at_home =
    let first = some_first c.self-2.inside.holding.held c.in-Some.got.now c.in-Some.ensures in
    let counted : c.count_wake.new.self.held ≡ c.in-Some.got.now ∷ first.0 = ap (λ (l : Life). l.held) (sym c.self-2.view_is) ∙ first.1 in
    let held : c.args.self.now.held ≡ c.in-Some.got.now ∷ first.0 = sym (ap (λ (l : Life). l.held) c.count_wake.ensures) ∙ counted in
    let last : last_act_of c.self-2.inside.last_act ≡ c.args.self.now.last_act = ap (λ (l : Life). l.last_act) (c.self-2.view_is ∙ c.count_wake.ensures) in
    let gathers = rw last at c.if-is_gathering.ensures in
    let woke : record c.args.self.now { held = c.in-Some.got.now ∷ first.0; wake = None; wakes = c.args.self.now.wakes + 1 } ≡ c.count_wake.new.self =
    ap (λ (gs : List Got). record c.args.self.now { held = gs; wake = None; wakes = c.args.self.now.wakes + 1 }) (sym held) ∙ sym c.count_wake.ensures in
    rw (held, ← gathers) (ap (λ (l : Life). asks_for_more (lived s l) c.args.consumer.now c.args.now) woke ∙ c.ask_for_more.ensures s)
