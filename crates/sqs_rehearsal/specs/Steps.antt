-- The steps of a rehearsal: what has come of it when it has begun, and when its run has come to its end.
use Rattle.std.specs.Arc.{arc_value}
use Rattle.std.specs.Prelude.{MatchResult, None, Ok, Result, [], ◌≡◌, ◌<◌}
use Rattle.sim_clock.specs.declared.refusal.Refusal.{Refusal}
use Rattle.sim_records.specs.Writes.{WriterState}
use Rattle.sim_report.specs.Reports.{running}
use Rattle.sim_scenario.specs.Ranges.{IsInRange}
use Rattle.sqs_formats.specs.Output.{log_of}
use Rattle.sqs_formats.specs.Rows.{line, log_header}
use Rattle.sqs_formats.specs.Scenario.{scenario_upto}
use Rattle.sqs_model.specs.Limits.{IsOver}
use Rattle.sqs_model.specs.Scenario.{Scenario}
use Rattle.sqs_rehearsal.specs.Asked.{asked_of}
use Rattle.sqs_rehearsal.specs.Options.{Options, split_fault}
use Rattle.sqs_rehearsal.specs.Rehearsals.{IsRefused, Rehearsed, Request, Rehearses}
use Rattle.sqs_rehearsal.specs.Splits.{split_of}
use Rattle.sqs_rehearsal.specs.Writers.{Got, GotNothing, Writer}
use Rattle.sqs_rehearsal.specs.declared.steps.Begun.{Begun}
use Rattle.sqs_rehearsal.specs.declared.steps.Ended.{Ended}
use Rattle.sqs_rehearsal.specs.declared.rehearsal.Fault.TheVariants as faults
use Rattle.sqs_rehearsal.specs.declared.rehearsal.Fault.{Fault}

-- a request that states this scenario and asks for these options
pub record Asks (q : Request) (s : Scenario) (o : Options) : Type 0 where
  pub stated : scenario_upto q.newest q.scripts q.text ≡ Ok s
  pub options : q.options ≡ o

-- a writer since it was so
abbrev pub since : WriterState → WriterState → Writer
since before after = record { before = before; after = after }

-- a request is refused before the writer of the rest gets anything
abbrev pub StopsEarly : Request → Writer → Refusal → Type 0
StopsEarly q log e = (report : Writer) → GotNothing report → IsRefused q log report (faults.Refused e)

-- a rehearsal that has begun: its scenario can be split as asked, the log has its header, and no rows are counted
pub record IsBegun (q : Request) (s : Scenario) (log : Writer) (begun : Begun) : Type 0 where
  pub asked : Asks q s q.options
  pub range : IsInRange s
  pub allowed : split_fault s q.options ≡ None
  pub header : Got log (line log_header)
  pub split : begun.split ≡ split_of s q.options
  pub names : arc_value begun.names ≡ s.names
  pub counts : begun.counts ≡ running (asked_of s q.options.figures) []

-- one whose run has come to its end: the log is whole, all rows are counted, and these are the sites of the last world
pub record IsLogged (q : Request) (log : Writer) (ended : Ended) : Type 0 where
  pub of : Rehearsed q
  pub not_over : ¬ IsOver of.scenario
  pub whole_log : Got log (log_of of.scenario of.run)
  pub names : arc_value ended.names ≡ of.scenario.names
  pub counts : ended.counts ≡ running (asked_of of.scenario q.options.figures) of.run.rows
  pub sites : ended.sites.items ≡ of.run.sites

-- what comes of the beginning
abbrev pub Begins : Request → Scenario → Writer → Result Begun Refusal → Type 0
Begins q s log result = MatchResult result (IsBegun q s log) (StopsEarly q log)

-- what comes of the run
abbrev pub Logs : Request → Writer → Result Ended Refusal → Type 0
Logs q log result = MatchResult result (IsLogged q log) (StopsEarly q log)

-- the same of the run of a rehearsal that has begun, whatever request it began with and how the log was at first
abbrev pub LogsOn : Scenario → Begun → WriterState → WriterState → Result Ended Refusal → Type 0
LogsOn s begun before after result =
    (q : Request) (start : WriterState) → IsBegun q s (since start before) begun → Logs q (since start after) result

-- and of a request for several workers
abbrev pub LogsOfSeveral : Scenario → Begun → WriterState → WriterState → Result Ended Refusal → Type 0
LogsOfSeveral s begun before after result =
    (q : Request) (start : WriterState) → 1 < q.options.workers
    → IsBegun q s (since start before) begun → Logs q (since start after) result

-- what comes of the beginning, whatever request states the scenario and asks for the options
abbrev pub BeginsAsAsked : Scenario → Options → Writer → Result Begun Refusal → Type 0
BeginsAsAsked s o log result = (q : Request) → Asks q s o → Begins q s log result

-- what comes of the end of a rehearsal whose run has come to its end
abbrev pub Ends : Ended → WriterState → WriterState → Writer → Result (Unit {0}) Fault → Type 0
Ends ended before after report result =
    (q : Request) (start : WriterState) → IsLogged q (since start before) ended → Rehearses q result (since start after) report
