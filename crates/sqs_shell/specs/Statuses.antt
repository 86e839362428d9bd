-- The status that the program ends with.
use Rattle.std.specs.Prelude.{List, ℕ}
use Rattle.std.specs.declared.io.ErrorKind.{ErrorKind as IoErrorKind}
use Rattle.std.specs.declared.io.ErrorKind.TheVariants as io_kinds
use Rattle.clap.specs.declared.error.kind.ErrorKind.{ErrorKind}
use Rattle.clap.specs.declared.error.kind.ErrorKind.TheVariants as kinds
use Rattle.std.specs.Borrow.{Bor}
use Rattle.sim_clock.specs.declared.refusal.Refusal.{Refusal}
use Rattle.sim_clock.specs.declared.refusal.Refusal.TheVariants as refusals
use Rattle.sim_logs.specs.declared.fault.LogFault.{LogFault}
use Rattle.sim_logs.specs.declared.fault.LogFault.TheVariants as log_faults
use Rattle.sqs_rehearsal.specs.declared.rehearsal.Fault.{Fault}
use Rattle.sqs_rehearsal.specs.declared.rehearsal.Fault.TheVariants as faults
use Rattle.sqs_shell.specs.declared.faults.Stop.{Stop}
use Rattle.sqs_shell.specs.declared.faults.Stop.TheVariants as stops

-- by an error: 3 of a run, 4 of a writer that failed, 1 of a scenario
abbrev pub status_of : Refusal → ℕ
status_of (refusals.WindowTooLong window least) = 3
status_of refusals.BadMap = 3
status_of refusals.BadWorkers = 3
status_of refusals.CountLimit = 3
status_of refusals.Memory = 3
status_of refusals.NoWorker = 3
status_of refusals.Write = 4
status_of refusal = 1

-- by a fault: 1 of a scenario
abbrev pub fault_status : Fault → ℕ
fault_status (faults.Scenario fault) = 1
fault_status (faults.Refused refusal) = status_of refusal

-- what stops the program if a log with this path is refused: out of memory, an input that can't be read, or no log
abbrev pub log_stop : LogFault → Bor (List ℕ) → Stop
log_stop log_faults.Memory path = stops.Refused (faults.Refused refusals.Memory)
log_stop log_faults.Unreadable path = stops.CannotRead path
log_stop fault path = stops.NoLog path fault

-- by what stops the program: 1 of an input that can't be read or is no log, 2 of the words of its command line
abbrev pub stop_status : Stop → ℕ
stop_status (stops.CannotRead path) = 1
stop_status (stops.NoLog path fault) = 1
stop_status stops.NotUtf8 = 2
stop_status (stops.Refused fault) = fault_status fault

-- by what `clap` says of the words: 3 if memory runs out, 0 of help that was asked for, else 2
abbrev pub usage_status : ErrorKind → ℕ
usage_status kinds.OutOfMemory = 3
usage_status kinds.DisplayHelp = 0
usage_status kinds.DisplayVersion = 0
usage_status kind = 2

-- the error of the program for a writer's error: out of memory, or that the writer failed
abbrev pub write_refusal : IoErrorKind → Refusal
write_refusal io_kinds.OutOfMemory = refusals.Memory
write_refusal kind = refusals.Write
