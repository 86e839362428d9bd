use Rattle.std.proofs.Common.{length, map}
use Rattle.sqs_model.specs.Finals.{final_message}
use Rattle.sqs_rehearsal.proofs.Messages.{IsWriting}
use Rattle.sqs_rehearsal.proofs.ending.write_queue.Given as goal

-- the messages that were taken are written and counted
abbrev pub invariant-loop-some : goal.invariant-loop-some
invariant-loop-some g l =
    IsWriting l.names (map (final_message l.queue) l.queue.records) (g.W.Out.state l.initial.out) l.initial.left
    (map (final_message l.queue) l.messages) (g.W.Out.state l.out) l.left

abbrev pub decreases-loop-some : goal.decreases-loop-some
decreases-loop-some g l = length l.messages
