use Rattle.std.proofs.Common.{◌≡◌, ◌≤◌, ◌++◌, ◌-◌, length, map}
use Rattle.sqs_model.specs.Finals.{final_message}
use Rattle.sqs_rehearsal.proofs.ending.next_messages.Given as goal

-- those taken so far, and what the others leave, are what all leave
abbrev pub invariant-loop-alloc : goal.invariant-loop-alloc
invariant-loop-alloc l = record {
  all : l.some.items ++ map (final_message l.queue) l.messages ≡ map (final_message l.queue) l.initial.messages;
  few : length l.some.items ≤ 1024;
}

abbrev pub decreases-loop-alloc : goal.decreases-loop-alloc
decreases-loop-alloc l = 1024 - length l.some.items
