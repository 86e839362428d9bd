use Rattle.std.proofs.Common.{◌≡◌, ◌≤◌, drop, length, map}
use Rattle.sim_records.specs.Lines.{with_fields}
use Rattle.sim_records.proofs.lines.put_fields.Given as goal

abbrev pub invariant-loop-left : goal.invariant-loop-left
invariant-loop-left l = record {
  within : l.left ≤ length l.fields;
  made : l.text ≡ with_fields l.initial.text (map (λ f. f.now) (drop l.left l.fields));
}

abbrev pub decreases-loop-left : goal.decreases-loop-left
decreases-loop-left l = l.left
