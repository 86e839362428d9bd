use Rattle.std.proofs.Common.{ap, sym, ◌∙◌, ◌∷◌, ◌≡◌}
use Rattle.sim_actor.specs.Lives.{Life}
use Rattle.sim_actor.proofs.Batches.{has_first}
use Rattle.sim_actor.proofs.life.Life.serve_held.Goals as goal

pub returns-in-Each-clause-life : goal.returns-in-Each-clause-life
returns-in-Each-clause-life c s =
    let first = has_first c.first.result c.self.inside.holding.held c.if-is_none.ensures c.first.ensures in
    let held : c.args.self.now.held ≡ first.0 ∷ first.1 = ap (λ (l : Life). l.held) (sym c.self.view_is) ∙ first.2 in
    rw (held, c.in-Each.is) (rw (held, c.in-Each.is) at c.begin.ensures.life s)
