use Rattle.std.proofs.Common.{◌<◌, length, arith}
use Rattle.std.proofs.lemmas.Bool.Decides.{nat_tests}
use Rattle.sim_scenario.proofs.QuantilesRead.{last_at}
use Rattle.sim_scenario.proofs.distributions.last_of.Goals as goal

pub returns-else-is_empty : goal.returns-else-is_empty
returns-else-is_empty c = let some : 0 < length c.args.quantiles.now = grind (arith, nat_tests) in last_at c.args.quantiles.now _ some
