use Rattle.sim_actor.proofs.life.Life.end_as.Goals as goal

pub returns-in-true-Once-clause-decision : goal.returns-in-true-Once-clause-decision
returns-in-true-Once-clause-decision c s g gs at_home held =
    rw (c.if-failed.false, c.in-true-Once.is-0, c.in-true-Once.is-1) (c.end_at_once.ensures.decision c.in-true-Once.each-1 s g gs at_home held)
