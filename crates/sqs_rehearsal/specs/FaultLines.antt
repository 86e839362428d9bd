-- The line of a fault.
use Rattle.std.specs.Fmt.{decimal}
use Rattle.std.specs.Prelude.{List, codes, ℕ, ◌++◌}
use Rattle.sim_clock.specs.Refusals.{displayed, refusal_code}
use Rattle.sqs_formats.specs.Output.{fault_line}
use Rattle.sqs_rehearsal.specs.declared.rehearsal.Fault.{Fault}
use Rattle.sqs_rehearsal.specs.declared.rehearsal.Fault.TheVariants as faults

-- the line of a scenario's fault, or of an error that ends a run, for example: refused 33 CountLimit
abbrev pub refusal_line : Fault → List ℕ
refusal_line (faults.Scenario f) = fault_line f
refusal_line (faults.Refused r) = codes "refused " ++ (decimal (refusal_code r) ++ (codes " " ++ (displayed r ++ codes "\n")))
