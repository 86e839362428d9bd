use Rattle.std.proofs.Common.{◌≡◌, ◌≤◌, drop, length, map}
use Rattle.sqs_formats.specs.Rows.{lines}
use Rattle.sim_records.proofs.record.make_lines.Given as goal

abbrev pub invariant-loop-left : goal.invariant-loop-left
invariant-loop-left g l = record {
  within : l.left ≤ length l.records;
  made : l.text ≡ lines (map (g.T.Record.columns l.names) (drop l.left l.records));
}

abbrev pub decreases-loop-left : goal.decreases-loop-left
decreases-loop-left g l = l.left
