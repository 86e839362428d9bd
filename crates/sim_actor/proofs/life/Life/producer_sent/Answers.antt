use Rattle.std.proofs.Common.{rules}
use Rattle.sim_actor.proofs.life.Life.producer_sent.Goals as goal

pub returns-clause-decision : goal.returns-clause-decision
returns-clause-decision c s = let after = c.wake_after.ensures.life s in search rules
