-- What writers got where a rehearsal stopped.
use Rattle.std.proofs.Common.{◌≡◌, Err, Ok, Result, inl, inr}
use Rattle.std.specs.Prelude.{IfErr, MatchResult, false}
use Rattle.std.specs.Result.{IsErrAnd}
use Rattle.sim_clock.specs.declared.refusal.Refusal.{Refusal}
use Rattle.sim_engine.specs.Limits.{StopsWhere}
use Rattle.sim_records.specs.Writes.{WroteSeveral}
use Rattle.sqs_formats.specs.Output.{log_of}
use Rattle.sqs_model.specs.Limits.{IsOver}
use Rattle.sqs_rehearsal.specs.Endings.{ending_with}
use Rattle.sqs_rehearsal.specs.Rehearsals.{Bars, IsRefused, IsUnwritten, Rehearsed, Request}
use Rattle.sqs_rehearsal.specs.Steps.{StopsEarly}
use Rattle.sqs_rehearsal.specs.Writers.{Got, GotPrefix, Writer}
use Rattle.sqs_rehearsal.specs.declared.rehearsal.Fault.{Fault}
use Rattle.sqs_rehearsal.specs.declared.rehearsal.Fault.TheVariants as faults
use Rattle.sim_clock.specs.declared.refusal.Refusal.TheVariants as refusals

-- before anything was written
pub refused_barred : (q : Request) (log report : Writer) (f : Fault) → Bars q f → IsUnwritten log report → IsRefused q log report f
refused_barred q log report (faults.Scenario f) b u = (b, u)
refused_barred q log report (faults.Refused refusals.Memory) b u = inl u
refused_barred q log report (faults.Refused refusals.Write) b u = absurd b
refused_barred q log report (faults.Refused refusals.CountLimit) b u = absurd b
refused_barred q log report (faults.Refused refusals.NoWorker) b u = absurd b
refused_barred q log report (faults.Refused e) b u = (b, u)

module _ (q : Request) (of : Rehearsed q) (log : Writer) where
  -- in the log: because memory ran out, or at a count
  pub stopped_where : (e : Refusal) → StopsWhere (IsOver of.scenario) e → GotPrefix log (log_of of.scenario of.run) false → StopsEarly q log e
  stopped_where refusals.Memory why p report none = inr (inl (record { of = of; log_prefix = p; no_report = none }))
  stopped_where refusals.CountLimit why p report none = record { stopped = record { of = of; log_prefix = p; no_report = none }; over = why }
  stopped_where e why p report none = absurd why

  -- because it could not be written
  pub stopped_unwritten : (e : Refusal) → WroteSeveral log.before log.after (log_of of.scenario of.run) (Err e) → StopsEarly q log e
  stopped_unwritten refusals.Memory p report none = inr (inl (record { of = of; log_prefix = record { bytes = p.0; fails = p.1 }; no_report = none }))
  stopped_unwritten refusals.Write p report none = inl (record { of = of; log_prefix = record { bytes = p.0; fails = p.1 }; no_report = none })
  stopped_unwritten e p report none = absurd p

  -- after the log
  pub refused_after_log : (report : Writer) (e : Refusal) → Got log (log_of of.scenario of.run) → WroteSeveral report.before report.after (ending_with of.scenario q.options.figures of.run) (Err e)
      → IsRefused q log report (faults.Refused e)
  refused_after_log report refusals.Memory g p = inr (inr (record { of = of; whole_log = g; report_prefix = record { bytes = p.0; fails = p.1 } }))
  refused_after_log report refusals.Write g p = inr (record { of = of; whole_log = g; report_prefix = record { bytes = p.0; fails = p.1 } })
  refused_after_log report e g p = absurd p

-- what holds of the error that a `?` met holds of the one that it hands on
pub handed_on : {X : Type 0} (P : Refusal → Type 0) (r : Result X Refusal) (e : Refusal) → IsErrAnd r (λ met. met ≡ e) → P e → IfErr r P
handed_on P (Ok x) e p b = absurd p
handed_on P (Err met) e p b = rw p b

pub handed_over : {X E : Type 0} (P : X → Type 0) (Q : E → Type 0) (r : Result X E) (e : E) → IsErrAnd r (λ met. met ≡ e) → Q e → MatchResult r P Q
handed_over P Q (Ok x) e p b = absurd p
handed_over P Q (Err met) e p b = rw p b
