use Rattle.std.proofs.Common.{refl}
use Rattle.sim_clock.specs.declared.refusal.Refusal.TheVariants as refusals
use Rattle.sqs_rehearsal.proofs.PrintedRows.{recorded_printed, stopped_printed, uncounted_printed}
use Rattle.sqs_rehearsal.proofs.Stopped.{handed_on}
use Rattle.sqs_rehearsal.proofs.recorder.Recorder.take_printed.Goals as goal

pub returns-in_err-write_printed-clause-broke : goal.returns-in_err-write_printed-clause-broke
returns-in_err-write_printed-clause-broke g c made are =
    let met = c.in_err-write_printed.field-0.0 in
    handed_on _ c.from_residual.result met c.from_residual.ensures.1
    (stopped_printed g.W.Out.state c.args.self.now _ c.args.rows.now made are (record { names = refl; writer = refl; report = refl }) met c.in_err-write_printed.ensures)

pub returns-in_err-count_printed-clause-broke : goal.returns-in_err-count_printed-clause-broke
returns-in_err-count_printed-clause-broke g c made are =
    handed_on _ c.from_residual-in_err-count_printed.result refusals.Memory c.from_residual-in_err-count_printed.ensures.1
    (uncounted_printed g.W.Out.state c.args.self.now _ c.args.rows.now made are (record { names = refl; writer = refl; report = refl }) _ c.in_ok-write_printed.ensures)

pub returns-in-Some-clause-took : goal.returns-in-Some-clause-took
returns-in-Some-clause-took g c made are =
    recorded_printed g.W.Out.state c.args.self.now _ c.args.rows.now made are (record { names = refl; writer = refl; report = refl }) _ c.in_ok-write_printed.ensures c.in_ok-count_printed.ensures
