use Rattle.sqs_rehearsal.specs.Left.{keyed}
use Rattle.sqs_rehearsal.proofs.Left.{IsAdding}
use Rattle.sqs_rehearsal.proofs.finals.add_transfers.Given as goal

-- those of the transfers so far stand behind others
abbrev pub invariant-loop-transfer : goal.invariant-loop-transfer
invariant-loop-transfer l = IsAdding keyed l.fn.transfers l.initial.list.items l.transfer-iterator l.list.items
