use Rattle.std.proofs.Common.{◌≡◌, take}
use Rattle.sqs_rehearsal.specs.Printed.{printed_added}
use Rattle.sqs_rehearsal.proofs.recorder.count_printed.Given as goal

abbrev pub invariant-loop-row : goal.invariant-loop-row
invariant-loop-row l = l.report ≡ printed_added l.initial.report (take l.row-index l.rows)
