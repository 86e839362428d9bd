use Rattle.std.proofs.Common.{arith, subst, sym}
use Rattle.std.proofs.lemmas.Grind.{common_steps}
use Rattle.sim_scenario.specs.Ranges.{IsInRange}
use Rattle.sim_scenario.proofs.reader.assembled.Goals as goal

pub returns-clause-value : goal.returns-clause-value
returns-clause-value c = grind (arith, common_steps)

pub returns-clause-range : goal.returns-clause-range
returns-clause-range c = subst IsInRange (sym (returns-clause-value c)) c.requires
