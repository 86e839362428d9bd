use Rattle.std.proofs.Common.{◌≡◌, flat_map, take}
use Rattle.std.specs.List.{enumerate_from}
use Rattle.sqs_formats.specs.Rows.{lines}
use Rattle.sqs_rehearsal.specs.Said.{said_of}
use Rattle.sqs_rehearsal.proofs.said.said_text.Given as goal

-- what is said of the queues so far
abbrev pub invariant-loop-number : goal.invariant-loop-number
invariant-loop-number l = l.text ≡ lines (flat_map (said_of l.others l.marks) (take l.number (enumerate_from 0 l.names)))
