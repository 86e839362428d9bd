use Rattle.sim_actor.proofs.life.Life.consumer_told.Goals as goal

pub returns-in-Asked-clause-decision : goal.returns-in-Asked-clause-decision
returns-in-Asked-clause-decision c s = rw (← c.self.view_is, c.in-Asked.is) (rw (← c.self.view_is, c.in-Asked.is) at c.idle.ensures.decision s)
