use Rattle.std.proofs.Common.{rules}
use Rattle.sim_actor.proofs.life.Life.serve_batch.Goals as goal

pub returns-clause-decision : goal.returns-clause-decision
returns-clause-decision c s =
    let began = rw c.held_count-messages.ensures at c.begin.ensures.life s in
    rw (← c.self.view_is) (search rules)
