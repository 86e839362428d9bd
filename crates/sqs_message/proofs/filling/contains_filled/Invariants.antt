use Rattle.std.proofs.Common.{◌≡◌, length}
use Rattle.sqs_message.specs.Bodies.{contains, filled}
use Rattle.sqs_message.proofs.filling.contains_filled.Given as goal

abbrev pub invariant-loop-rest : goal.invariant-loop-rest
invariant-loop-rest l = contains l.part l.rest ≡ contains l.part (filled l.digits l.text)

abbrev pub decreases-loop-rest : goal.decreases-loop-rest
decreases-loop-rest l = length l.rest
