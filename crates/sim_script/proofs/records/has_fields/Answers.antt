use Rattle.std.proofs.Common.{arith, map}
use Rattle.std.proofs.lemmas.List.{length-map}
use Rattle.csv.specs.Records.{fields_of}
use Rattle.sim_script.proofs.RecordCalls.{unlike}
use Rattle.sim_script.proofs.records.has_fields.Goals as goal

pub returns-then-len-names : goal.returns-then-len-names
returns-then-len-names c =
    unlike (fields_of c.args.row.now) (map (λ n. n.now) c.args.names.now) (λ e. absurd (omega (arith, e, length-map c.args.names.now (λ n. n.now))))
