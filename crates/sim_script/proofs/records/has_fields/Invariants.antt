use Rattle.std.proofs.Common.{◌≡◌, drop, map}
use Rattle.csv.specs.Records.{fields_of}
use Rattle.sqs_formats.specs.Script.{same_fields}
use Rattle.sim_script.proofs.records.has_fields.Given as goal

-- the fields that are left are as the whole
abbrev pub invariant-loop-i : goal.invariant-loop-i
invariant-loop-i l = same_fields (fields_of l.row) (map (λ n. n.now) l.names) ≡ same_fields (drop l.i (fields_of l.row)) (map (λ n. n.now) (drop l.i l.names))
