-- What a rehearsal writes, or why it is refused.
use Rattle.std.specs.Prelude.{Bool, Err, List, MatchResult, None, Ok, Result, Some, false, true, ℕ, ◌<◌, ◌≡◌, ◌⊎◌}
use Rattle.sim_clock.specs.declared.refusal.Refusal.{Refusal}
use Rattle.sqs_formats.specs.Output.{log_of}
use Rattle.sqs_formats.specs.Rows.{line, log_header}
use Rattle.sqs_formats.specs.Scenario.{newest_unasked, scenario_upto}
use Rattle.sqs_laws.specs.Laws.{Journeys, KeepsTheRules, WhatIsLeft}
use Rattle.sqs_model.specs.Accounts.{EachHasOnePlace, NoOtherHasPlace}
use Rattle.sqs_model.specs.Finals.{finals_of}
use Rattle.sqs_model.specs.Limits.{IsOver}
use Rattle.sqs_model.specs.Run.{IsRunOf, Run}
use Rattle.sqs_model.specs.Scenario.{Scenario}
use Rattle.sqs_rehearsal.specs.Endings.{ending_with}
use Rattle.sqs_rehearsal.specs.Options.{Options, split_fault}
use Rattle.sqs_rehearsal.specs.Writers.{Got, GotPrefix, GotNothing, Writer}
use Rattle.sqs_rehearsal.specs.declared.rehearsal.Fault.{Fault}
use Rattle.sim_scenario.specs.declared.fault.ReadError.{ReadError}
use Rattle.sim_clock.specs.declared.refusal.Refusal.TheVariants as refusals
use Rattle.sim_scenario.specs.declared.fault.ReadError.TheVariants as errors
use Rattle.sqs_rehearsal.specs.declared.rehearsal.Fault.TheVariants as faults

-- what was asked for: the newest version that may be read, the scenario's text with its scripts by their names, and how
-- the run is split
pub record Request : Type 0 where
  pub newest : ℕ
  pub text : List ℕ
  pub scripts : List (List ℕ × List ℕ)
  pub options : Options

-- a request for these, of versions up to the newest one
abbrev pub request_upto : ℕ → List ℕ → List (List ℕ × List ℕ) → Options → Request
request_upto newest text scripts options = record { newest = newest; text = text; scripts = scripts; options = options }

-- a request for these, of versions 1 and 2
abbrev pub request : List ℕ → List (List ℕ × List ℕ) → Options → Request
request = request_upto newest_unasked

-- a request's scenario, split as asked, and its one-list run: each accepted message is in one place, no other in any,
-- the rows keep the rules of SQS, and they say which messages are left and which are under way
pub record Rehearsed (q : Request) : Type 0 where
  pub scenario : Scenario
  pub run : Run
  pub stated : scenario_upto q.newest q.scripts q.text ≡ Ok scenario
  pub allowed : split_fault scenario q.options ≡ None
  pub is_run : IsRunOf scenario run
  pub one_place : EachHasOnePlace run.sites run.rows
  pub no_other : NoOtherHasPlace run.sites run.rows
  pub rules : KeepsTheRules scenario run.rows
  pub left : WhatIsLeft scenario run.rows (finals_of run.sites).messages
  pub journeys : Journeys scenario run.rows (finals_of run.sites).transfers

-- a whole rehearsal: the one-list run takes no count past the limit; the writers got the log, and finals and report, and
-- were flushed after that
pub record IsWritten (q : Request) (log report : Writer) : Type 0 where
  pub of : Rehearsed q
  pub not_over : ¬ IsOver of.scenario
  pub whole_log : Got log (log_of of.scenario of.run)
  pub whole_report : Got report (ending_with of.scenario q.options.figures of.run)
  pub flushed : (log.after.flushed ≡ true) × (report.after.flushed ≡ true)

-- a rehearsal that stopped in the log: its writer got a prefix of it, and whether it failed; the other got nothing
pub record StoppedInLog (q : Request) (log report : Writer) (failed : Bool) : Type 0 where
  pub of : Rehearsed q
  pub log_prefix : GotPrefix log (log_of of.scenario of.run) failed
  pub no_report : GotNothing report

-- one whose run stopped since a count would pass the limit
pub record StoppedByLimit (q : Request) (log report : Writer) : Type 0 where
  pub stopped : StoppedInLog q log report false
  pub over : IsOver stopped.of.scenario

-- one of several workers, of which one could not be started: the log writer got the header, the other nothing
pub record StoppedAtStart (q : Request) (log report : Writer) : Type 0 where
  pub of : Rehearsed q
  pub several : 1 < q.options.workers
  pub header : Got log (line log_header)
  pub no_report : GotNothing report

-- one that stopped after the log: the other writer got a prefix of finals and report, and whether it failed
pub record StoppedAfterLog (q : Request) (log report : Writer) (failed : Bool) : Type 0 where
  pub of : Rehearsed q
  pub whole_log : Got log (log_of of.scenario of.run)
  pub report_prefix : GotPrefix report (ending_with of.scenario q.options.figures of.run) failed

-- one that stopped on its way: the log is written first, and the rest after all of it
abbrev pub IsPartWritten : Request → Writer → Writer → Bool → Type 0
IsPartWritten q log report failed = StoppedInLog q log report failed ⊎ StoppedAfterLog q log report failed

-- nothing of it
pub record IsUnwritten (log report : Writer) : Type 0 where
  pub no_log : GotNothing log
  pub no_report : GotNothing report

-- a scenario that a request states
pub record Stated (q : Request) : Type 0 where
  pub scenario : Scenario
  pub stated : scenario_upto q.newest q.scripts q.text ≡ Ok scenario

-- the fault of a scenario that could not be read
abbrev pub fault_of_reading : ReadError → Fault
fault_of_reading errors.Memory = faults.Refused refusals.Memory
fault_of_reading (errors.Fault f) = faults.Scenario f

-- why a request is refused before anything is written
abbrev pub IsBarred : Request → Refusal → Type 0
IsBarred q refusals.BadMap = (s : Stated q) × (split_fault s.scenario q.options ≡ Some refusals.BadMap)
IsBarred q (refusals.WindowTooLong w least) =
    (s : Stated q) × (split_fault s.scenario q.options ≡ Some (refusals.WindowTooLong w least))
IsBarred q refusals.BadWorkers = (s : Stated q) × (split_fault s.scenario q.options ≡ Some refusals.BadWorkers)
IsBarred q refusals.Memory = Unit {0}
IsBarred q r = ⊥

-- the same, of a scenario's own fault too
abbrev pub Bars : Request → Fault → Type 0
Bars q (faults.Scenario f) = scenario_upto q.newest q.scripts q.text ≡ Err f
Bars q (faults.Refused r) = IsBarred q r

-- why a request is refused, and what was written by then
abbrev pub IsRefused : Request → Writer → Writer → Fault → Type 0
IsRefused q log report (faults.Refused refusals.Write) = IsPartWritten q log report true
IsRefused q log report (faults.Refused refusals.Memory) = IsUnwritten log report ⊎ IsPartWritten q log report false
IsRefused q log report (faults.Refused refusals.CountLimit) = StoppedByLimit q log report
IsRefused q log report (faults.Refused refusals.NoWorker) = StoppedAtStart q log report
IsRefused q log report f = Bars q f × IsUnwritten log report

-- what came of a request: a whole rehearsal, or why it is refused, and what was written by then
abbrev pub Rehearses : Request → Result (Unit {0}) Fault → Writer → Writer → Type 0
Rehearses q result log report = MatchResult result (λ _. IsWritten q log report) (IsRefused q log report)
