use Rattle.std.proofs.Common.{◌≡◌, flat_map, take}
use Rattle.sqs_rehearsal.proofs.recorder.lines_of.Given as goal

abbrev pub invariant-loop-row : goal.invariant-loop-row
invariant-loop-row l = l.text.items ≡ flat_map (λ p. p.line) (take l.row-index l.rows)
