use Rattle.std.proofs.Common.{◌≡◌, length}
use Rattle.sqs_messages.specs.Slots.{standing}
use Rattle.sqs_messages.proofs.messages.MessagesIterator.next.Given as goal

abbrev pub invariant-loop-slot : goal.invariant-loop-slot
invariant-loop-slot l = standing l.self-inside.slots.now ≡ l.fn.self

abbrev pub decreases-loop-slot : goal.decreases-loop-slot
decreases-loop-slot l = length l.self-inside.slots.now
