-- What a rehearsal writes: the log, then finals and report; or the line of an error.
use Rattle.std.specs.Prelude.{ℕ, List, [], ◌∷◌, ◌++◌, codes, take, length}
use Rattle.std.specs.Fmt.{decimal}
use Rattle.sim_clock.specs.Refusals.{refusal_code, refusal_name}
use Rattle.sqs_model.specs.Scenario.{Scenario}
use Rattle.sqs_model.specs.Run.{Run}
use Rattle.sqs_model.specs.Finals.{finals_of}
use Rattle.sqs_formats.specs.declared.faults.ScenarioFault.{ScenarioFault}
use Rattle.sqs_formats.specs.Rows.{log_records, log_text}
use Rattle.sqs_formats.specs.Finals.{final_records, finals_text}
use Rattle.sqs_formats.specs.Report.{Column, report, report_records, report_text}

-- the names of a scenario's queues
abbrev pub queue_names : Scenario → List (List ℕ)
queue_names s = take (length s.queues) s.names

-- the report of a run
abbrev pub report_of : Scenario → Run → List Column
report_of s r = report (queue_names s) r.rows (finals_of r.sites)

-- what the log writer gets
abbrev pub log_of : Scenario → Run → List ℕ
log_of s r = log_text s.names r.rows

-- what the report writer gets: finals, then the report
abbrev pub ending_of : Scenario → Run → List ℕ
ending_of s r = finals_text s.names (finals_of r.sites) ++ report_text (report_of s r)

-- the records of both, one after the other
abbrev pub output_records : Scenario → Run → List (List (List ℕ))
output_records s r = log_records s.names r.rows ++ (final_records s.names (finals_of r.sites) ++ report_records (report_of s r))

-- the place of a fault, if it has one
abbrev pub at_place : List ℕ → List ℕ
at_place [] = []
at_place (b ∷ bs) = codes " at " ++ (b ∷ bs)

-- the line of a scenario's fault, for example: refused 14 OutOfRange at queue[0].delay_s
abbrev pub fault_line : ScenarioFault → List ℕ
fault_line f =
    codes "refused " ++ (decimal (refusal_code f.refusal) ++ (codes " " ++ (refusal_name f.refusal ++ (at_place f.place ++ codes "\n"))))
