use Rattle.sim_actor.proofs.life.Life.gather_more.Goals as goal

pub returns-clause-decision : goal.returns-clause-decision
returns-clause-decision c s =
    let after = rw c.as_slice.ensures.value at c.rest_after-after.ensures.after in
    rw (← c.self.view_is) (rw (c.in_ok-append.ensures, after) at c.gather.ensures.decision s)
