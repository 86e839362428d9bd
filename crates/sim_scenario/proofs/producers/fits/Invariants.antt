use Rattle.std.proofs.Common.{◌≡◌, ◌+◌, length}
use Rattle.sqs_message.specs.Bodies.{filled}
use Rattle.sim_scenario.proofs.producers.fits.Given as goal

-- what is left to fill has what room is left
abbrev pub invariant-loop-rest : goal.invariant-loop-rest
invariant-loop-rest l = length (filled l.digits l.rest) + l.most ≡ length (filled l.digits l.body) + l.left

abbrev pub decreases-loop-rest : goal.decreases-loop-rest
decreases-loop-rest l = length l.rest
