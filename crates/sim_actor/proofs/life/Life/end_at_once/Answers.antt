use Rattle.std.proofs.Common.{[], ap, sym, ◌∙◌, ◌∷◌, ◌≡◌}
use Rattle.sim_actor.specs.Holdings.{Holding}
use Rattle.sim_actor.specs.Lives.{Life}
use Rattle.sim_actor.proofs.life.Life.end_at_once.Goals as goal

pub returns-in-Some-clause-decision : goal.returns-in-Some-clause-decision
returns-in-Some-clause-decision c each s g gs at_home held =
    let before : Holding = c.self.inside.holding in
    let after : Holding = c.serve_all.new.self in
    let held_is : before.held ≡ g ∷ gs = ap (λ (l : Life). l.held) c.self.view_is ∙ held in
    let served = c.in-Some.ensures in
    let both : g ∷ gs ≡ c.in-Some.got ∷ after.done = sym held_is ∙ served.0 in
    let got : c.in-Some.got ≡ g = cc in
    let done : after.done ≡ gs = cc in
    let none : after.held ≡ [] = ap (λ (h : Holding). h.held) served.1 in
    let failed : after.failed ≡ before.failed = ap (λ (h : Holding). h.failed) served.1 in
    let settled = rw (none, done, failed, got) at c.settle.ensures.decision s at_home in
    rw (← c.self.view_is) settled
