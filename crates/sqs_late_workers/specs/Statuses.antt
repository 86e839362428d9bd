-- The status that the program ends with.
use Rattle.std.specs.Prelude.{ℕ}
use Rattle.sim_clock.specs.Refusals.{refusal_code}
use Rattle.sqs_rehearsal.specs.declared.rehearsal.Fault.{Fault}
use Rattle.sqs_rehearsal.specs.declared.rehearsal.Fault.TheVariants as faults

-- the number of the error
abbrev pub status_of : Fault → ℕ
status_of (faults.Scenario fault) = refusal_code fault.refusal
status_of (faults.Refused refusal) = refusal_code refusal
