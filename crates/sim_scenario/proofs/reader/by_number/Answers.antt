use Rattle.std.proofs.Common.{arith}
use Rattle.std.proofs.lemmas.Grind.{common_steps}
use Rattle.sim_scenario.proofs.reader.by_number.Goals as goal

pub loop-agents-preserved : goal.loop-agents-preserved
loop-agents-preserved c = grind (arith, common_steps)

pub returns : goal.returns
returns c = grind (arith, common_steps)
