use Rattle.std.proofs.Common.{refl}
use Rattle.sim_actor.proofs.life.Life.gather.Goals as goal

pub returns-then-not-is_gathered-clause-decision : goal.returns-then-not-is_gathered-clause-decision
returns-then-not-is_gathered-clause-decision c s =
    let not = rw (← c.self.view_is) at c.if-not-is_gathered.ensures s in
    let again = rw (← c.self.view_is) at c.asks_again.ensures s in
    rw (← c.self.view_is, again, ← not) refl

pub returns-clause-decision : goal.returns-clause-decision
returns-clause-decision c s =
    let yes = rw (← c.self.view_is) at c.if-not-is_gathered.ensures s in
    rw (← c.self.view_is, ← yes) (rw (← c.self.view_is) at c.serve_batch.ensures.decision s)
