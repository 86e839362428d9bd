use Rattle.sqs_model.specs.Finals.{final_message}
use Rattle.sqs_rehearsal.proofs.Left.{IsAdding}
use Rattle.sqs_rehearsal.proofs.finals.add_messages.Given as goal

-- those of the messages so far stand behind others
abbrev pub invariant-loop-message : goal.invariant-loop-message
invariant-loop-message l = IsAdding (final_message l.queue) l.queue.records l.initial.messages.items l.message-iterator l.messages.items
