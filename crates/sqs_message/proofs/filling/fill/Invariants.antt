use Rattle.std.proofs.Common.{◌≡◌, ◌++◌, length}
use Rattle.sqs_message.specs.Bodies.{filled}
use Rattle.sqs_message.proofs.filling.fill.Given as goal

abbrev pub invariant-loop-digits : goal.invariant-loop-digits
invariant-loop-digits l = l.out.items ++ filled (l.digits) l.rest ≡ filled (l.digits) l.fn.text

abbrev pub decreases-loop-digits : goal.decreases-loop-digits
decreases-loop-digits l = length l.rest
