use Rattle.std.proofs.Common.{ap, rules, sym, ◌∙◌, ◌∷◌, ◌≡◌, []}
use Rattle.sim_actor.specs.Lives.{Life}
use Rattle.sim_actor.proofs.Batches.{has_first, no_first}
use Rattle.sim_actor.proofs.life.Life.consumer_got.Goals as goal

pub returns-then-is_some-clause-decision : goal.returns-then-is_some-clause-decision
returns-then-is_some-clause-decision c s =
    let first = has_first c.first.result c.self.inside.holding.held (sym c.if-is_some.ensures) c.first.ensures in
    let held : c.args.self.now.held ≡ first.0 ∷ first.1 = ap (λ (l : Life). l.held) (sym c.self.view_is) ∙ first.2 in
    rw held (rw (held, c.into_vec-messages.ensures.messages) at c.gather_more.ensures.decision s)

pub returns-then-is_empty-clause-decision : goal.returns-then-is_empty-clause-decision
returns-then-is_empty-clause-decision c s =
    let none = no_first c.first.result c.self.inside.holding.held c.if-is_some.ensures c.first.ensures in
    let held : c.args.self.now.held ≡ [] = ap (λ (l : Life). l.held) (sym c.self.view_is) ∙ none in
    let idles = c.idle.ensures.decision s in
    rw held (search rules)

pub returns-clause-decision : goal.returns-clause-decision
returns-clause-decision c s =
    let none = no_first c.first.result c.self.inside.holding.held c.if-is_some.ensures c.first.ensures in
    let held : c.args.self.now.held ≡ [] = ap (λ (l : Life). l.held) (sym c.self.view_is) ∙ none in
    let gathers = c.gather_first.ensures.decision s in
    rw held (search rules)
