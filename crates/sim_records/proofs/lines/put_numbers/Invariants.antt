use Rattle.std.proofs.Common.{◌≡◌, ◌≤◌, drop, length, map}
use Rattle.std.specs.Fmt.{decimal}
use Rattle.sqs_formats.specs.Rows.{text_if}
use Rattle.sim_records.specs.Lines.{with_fields}
use Rattle.sim_records.proofs.lines.put_numbers.Given as goal

abbrev pub invariant-loop-left : goal.invariant-loop-left
invariant-loop-left l = record {
  within : l.left ≤ length l.numbers;
  made : l.text ≡ with_fields l.initial.text (map (text_if decimal) (drop l.left l.numbers));
}

abbrev pub decreases-loop-left : goal.decreases-loop-left
decreases-loop-left l = l.left
