use Rattle.std.proofs.Common.{◌≡◌, ◌++◌, length}
use Rattle.sqs_message.specs.Bodies.{filled}
use Rattle.sqs_message.proofs.filling.Rest.next.Given as goal

abbrev pub invariant-loop-self : goal.invariant-loop-self
invariant-loop-self l =
    l.self-inside.number.now ++ filled l.self-inside.digits.now l.self-inside.text.now
    ≡ l.initial.self-inside.number.now ++ filled l.initial.self-inside.digits.now l.initial.self-inside.text.now

abbrev pub decreases-loop-self : goal.decreases-loop-self
decreases-loop-self l = length l.self-inside.text.now
