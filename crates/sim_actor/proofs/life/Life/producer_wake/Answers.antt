use Rattle.std.proofs.Common.{refl}
use Rattle.sim_actor.proofs.life.Life.producer_wake.Goals as goal

pub returns-clause-decision : goal.returns-clause-decision
returns-clause-decision c s =
    rw (c.in_ok-body.ensures, c.in_ok-id.ensures, c.count_wake-2.ensures, ← c.self.view_is, ← c.if-has_come.ensures, c.in_ok-group.ensures.drawn) refl
