use Rattle.std.proofs.Common.{refl, ◌∙◌}
use Rattle.sqs_rehearsal.proofs.Rehearsing.{ends_short, ends_whole, stops_unflushed}
use Rattle.sqs_rehearsal.proofs.Stopped.{handed_over}
use Rattle.sqs_rehearsal.specs.Writers.{seen}
use Rattle.sqs_rehearsal.specs.declared.rehearsal.Fault.TheVariants.{Refused}
use Rattle.sqs_rehearsal.proofs.steps.Ended.end.Goals as goal

pub returns-in_err-flush : goal.returns-in_err-flush
returns-in_err-flush g c q start logged =
    let e = c.in_err-flush.field-0.0 in
    let report = seen g.R.Out.state c.args.report.now c.args.report.now in
    handed_over _ _ c.from_residual.result (Refused e) c.from_residual.ensures.1
    (stops_unflushed q start (g.L.Out.state c.args.log.now) (g.L.Out.state c.flush.new.out) c.args.self logged e c.in_err-flush.ensures.written report (record { nothing = refl; whole = c.requires.report }))

pub returns-in_err-write_ending : goal.returns-in_err-write_ending
returns-in_err-write_ending g c q start logged =
    let e = c.in_err-write_ending.field-0.0 in
    let report = seen g.R.Out.state c.args.report.now c.write_ending.new.out in
    handed_over _ _ c.from_residual-in_err-write_ending.result (Refused e) c.from_residual-in_err-write_ending.ensures.1
    (ends_short q start (g.L.Out.state c.args.log.now) (g.L.Out.state c.flush.new.out) c.args.self logged c.in_ok-flush.field-0 c.in_ok-flush.ensures.written report e
    (c.in_err-write_ending.ensures.written logged.of.scenario logged.of.run q.options.figures (c.deref.ensures ∙ logged.names) logged.counts (c.as_slice-sites.ensures.value ∙ logged.sites)))

pub returns : goal.returns
returns g c q start logged =
    let report = seen g.R.Out.state c.args.report.now c.write_ending.new.out in
    ends_whole q start (g.L.Out.state c.args.log.now) (g.L.Out.state c.flush.new.out) c.args.self logged c.in_ok-flush.field-0 c.in_ok-flush.ensures.written c.in_ok-flush.ensures.flushed report c.in_ok-write_ending.field-0
    (c.in_ok-write_ending.ensures.written logged.of.scenario logged.of.run q.options.figures (c.deref.ensures ∙ logged.names) logged.counts (c.as_slice-sites.ensures.value ∙ logged.sites)) c.in_ok-write_ending.ensures.flushed
