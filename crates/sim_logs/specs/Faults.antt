-- The faults of a read that failed, and of a first line.
use Rattle.std.specs.Prelude.{◌≢◌, ℕ, ⊤, List, Option, IfSome}
use Rattle.std.specs.Io.BufRead.{take_through}
use Rattle.std.specs.declared.io.ErrorKind.{ErrorKind}
use Rattle.std.specs.declared.io.ErrorKind.TheVariants as kinds
use Rattle.csv.specs.Machine.{line_feed}
use Rattle.sqs_formats.specs.Rows.{line, log_header}
use Rattle.sim_logs.specs.declared.fault.LogFault.{LogFault}
use Rattle.sim_logs.specs.declared.fault.LogFault.TheVariants as faults

-- out of memory, or the log can't be read
abbrev pub fault_of : ErrorKind → LogFault
fault_of kinds.OutOfMemory = faults.Memory
fault_of kind = faults.Unreadable

-- one of these two
abbrev pub IsReadFault : LogFault → Type 0
IsReadFault faults.Memory = ⊤
IsReadFault faults.Unreadable = ⊤
IsReadFault fault = ⊥

-- one of these two, or the first line is not the header of a log
abbrev pub IsHeaderFault : Option (List ℕ) → LogFault → Type 0
IsHeaderFault old faults.NoHeader = IfSome old (λ all. take_through line_feed all ≢ line log_header)
IsHeaderFault old fault = IsReadFault fault
