use Rattle.std.proofs.Common.{arith}
use Rattle.std.proofs.lemmas.Grind.{common_steps}
use Rattle.sim_scenario.proofs.reader.part.Goals as goal

pub loop-item-preserved : goal.loop-item-preserved
loop-item-preserved g c = record {
  settings = grind (arith, common_steps, c.loop-item.invariant.settings);
  names = grind (arith, common_steps, c.loop-item.invariant.names);
}

pub returns-clause-settings : goal.returns-clause-settings
returns-clause-settings g c = grind (arith, common_steps)

pub returns-clause-names : goal.returns-clause-names
returns-clause-names g c = grind (arith, common_steps)
