use Rattle.std.proofs.Common.{arith}
use Rattle.std.proofs.lemmas.Grind.{common_steps}
use Rattle.sim_scenario.proofs.producers.fits.Goals as goal

pub loop-rest-preserved : goal.loop-rest-preserved
loop-rest-preserved c = grind (arith, common_steps)

pub loop-rest-preserved-then-has_mark : goal.loop-rest-preserved-then-has_mark
loop-rest-preserved-then-has_mark c = grind (arith, common_steps)
