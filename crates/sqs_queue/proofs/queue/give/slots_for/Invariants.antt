use Rattle.std.proofs.Common.{◌≡◌, length}
use Rattle.sqs_queue.proofs.queue.give.slots_for.Given as goal

-- there is a slot for each message so far
abbrev pub invariant-loop : goal.invariant-loop
invariant-loop l = length l.slots.items ≡ l.counter
