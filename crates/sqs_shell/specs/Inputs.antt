-- What the program reads, and why it can't.
use Rattle.std.specs.Prelude.{Bool, List, None, Option, Some, codes, if◌then◌else◌, unwrap_or, ℕ, ◌++◌}
use Rattle.std.specs.Borrow.{Bor}
use Rattle.std.specs.Str.{bytes_eq}
use Rattle.std.specs.declared.io.ErrorKind.{ErrorKind}
use Rattle.std.specs.declared.io.ErrorKind.TheVariants as kinds
use Rattle.sim_clock.specs.declared.refusal.Refusal.TheVariants as refusals
use Rattle.sim_scenario.specs.declared.draft.Newest.{Newest}
use Rattle.sim_scenario.specs.declared.draft.Newest.TheVariants.{Second, Third}
use Rattle.sqs_rehearsal.specs.declared.rehearsal.Fault.TheVariants as faults
use Rattle.sqs_shell.specs.declared.faults.Stop.{Stop}
use Rattle.sqs_shell.specs.declared.faults.Stop.TheVariants as stops
use Rattle.sqs_shell.specs.declared.files.InputError.{InputError}
use Rattle.sqs_shell.specs.declared.files.InputError.TheVariants as errors

-- the newest version of scenarios that is read: version 3 if it is asked for
abbrev pub newest_of : Bool → Newest
newest_of version_3 = if version_3 then Third else Second

-- the file that a path names, if it names one: none for `-`, which stands for standard input or output
abbrev pub file_named : Option (List ℕ) → Option (List ℕ)
file_named None = None
file_named (Some path) = if bytes_eq path (codes "-") then None else Some path

-- the path of a script: its name in the folder, which is . if none is given
abbrev pub script_path : Option (List ℕ) → List ℕ → List ℕ
script_path folder name = unwrap_or folder (codes ".") ++ (codes "/" ++ name)

-- why an input can't be had, by the error of a read: out of memory, or it can't be read
abbrev pub input_error : ErrorKind → InputError
input_error kinds.OutOfMemory = errors.Memory
input_error kind = errors.Unreadable

-- what stops the program then
abbrev pub input_stop : InputError → Bor (List ℕ) → Stop
input_stop errors.Memory path = stops.Refused (faults.Refused refusals.Memory)
input_stop errors.Unreadable path = stops.CannotRead path

-- why it stops if the words of its command line can't be read: out of memory, or one is not UTF-8
abbrev pub words_stop : ErrorKind → Stop
words_stop kinds.OutOfMemory = stops.Refused (faults.Refused refusals.Memory)
words_stop kind = stops.NotUtf8
