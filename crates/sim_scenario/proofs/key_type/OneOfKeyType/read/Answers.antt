use Rattle.std.proofs.Common.{arith}
use Rattle.std.proofs.lemmas.Grind.{common_steps}
use Rattle.sqs_formats.specs.Keys.{one_of}
use Rattle.sqs_formats.specs.Reading.{and_then}
use Rattle.sim_scenario.proofs.key_type.OneOfKeyType.read.Goals as goal

pub loop-text-preserved : goal.loop-text-preserved
loop-text-preserved g c = grind (arith, common_steps)

pub returns-then-eq : goal.returns-then-eq
unfolding one_of and_then
returns-then-eq g c = grind (arith, common_steps)

pub returns : goal.returns
unfolding one_of and_then
returns g c = grind (arith, common_steps)
