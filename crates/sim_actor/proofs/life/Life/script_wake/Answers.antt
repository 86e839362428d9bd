use Rattle.std.proofs.Common.{rules}
use Rattle.sim_actor.proofs.life.Life.script_wake.Goals as goal

pub returns-clause-decision : goal.returns-clause-decision
returns-clause-decision c s = search rules
