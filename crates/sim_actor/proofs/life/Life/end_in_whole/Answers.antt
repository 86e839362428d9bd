use Rattle.std.proofs.Common.{[], ap, sym, ◌++◌, ◌∙◌, ◌∷◌, ◌≡◌}
use Rattle.sim_actor.specs.Holdings.{Holding}
use Rattle.sim_actor.specs.Lives.{Life}
use Rattle.sim_actor.proofs.Batches.{no_first}
use Rattle.sim_actor.proofs.life.Life.end_in_whole.Goals as goal

pub returns-in-Some-clause-decision : goal.returns-in-Some-clause-decision
returns-in-Some-clause-decision c s g gs at_home held id receipt =
    let before : Holding = c.self.inside.holding in
    let after : Holding = c.take_done.new.self in
    let served : c.serve_first.new.self ≡ record before { done = before.done ++ g ∷ []; held = gs } =
    c.serve_first.ensures.first g gs (ap (λ (l : Life). l.held) c.self.view_is ∙ held) in
    let both : record before { done = before.done ++ g ∷ []; held = gs } ≡ record after { done = c.in-Some.got ∷ after.done } = sym served ∙ c.in-Some.ensures in
    let done : before.done ++ g ∷ [] ≡ c.in-Some.got ∷ after.done = ap (λ (h : Holding). h.done) both in
    let failed : before.failed ≡ after.failed = ap (λ (h : Holding). h.failed) both in
    let left : gs ≡ after.held = ap (λ (h : Holding). h.held) both in
    let none : gs ≡ [] = sym (ap (λ (h : Holding). h.held) served) ∙ no_first c.first.result c.serve_first.new.self.held c.if-is_some.ensures c.first.ensures in
    rw (← c.self.view_is, none, done) (rw (← left, none, ← failed) at c.settle.ensures.decision s at_home)
