use Rattle.std.proofs.Common.{length, ◌≡◌}
use Rattle.sqs_message.specs.Bodies.{contains}
use Rattle.sqs_message.proofs.filling.contains.Given as goal

abbrev pub invariant-loop-others : goal.invariant-loop-others
invariant-loop-others l = contains l.fn.part l.rest ≡ contains l.fn.part l.fn.bytes

abbrev pub decreases-loop-others : goal.decreases-loop-others
decreases-loop-others l = length l.rest
