use Rattle.std.proofs.Common.{arith}
use Rattle.sqs_messages.proofs.groups.choose.give.Goals as goal

pub overflow_add-choice : goal.overflow_add-choice
overflow_add-choice c = omega (arith, c.loop-number.invariant.looked, c.loop-number.invariant.more, c.loop-number.invariant.walk.short, c.requires.few, c.requires.range)
