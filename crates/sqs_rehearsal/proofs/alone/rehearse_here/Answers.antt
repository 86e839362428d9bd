use Rattle.std.proofs.Common.{refl}
use Rattle.sqs_rehearsal.proofs.Stopped.{handed_over}
use Rattle.sqs_rehearsal.specs.Writers.{seen}
use Rattle.sqs_rehearsal.specs.declared.rehearsal.Fault.TheVariants.{Refused}
use Rattle.sqs_rehearsal.proofs.alone.rehearse_here.Goals as goal

pub returns-in_err-begun : goal.returns-in_err-begun
returns-in_err-begun g c q asks =
    handed_over _ _ c.from_residual.result (Refused c.in_err-begun.field-0.0) c.from_residual.ensures.1
    (c.in_err-begun.ensures.begins q asks (seen g.R.Out.state c.args.report.now c.args.report.now) (record { nothing = refl; whole = c.requires.report }))

pub returns-in_err-ended : goal.returns-in_err-ended
returns-in_err-ended g c q asks =
    handed_over _ _ c.from_residual-in_err-ended.result (Refused c.in_err-ended.field-0.0) c.from_residual-in_err-ended.ensures.1
    (c.in_err-ended.ensures.logs q (g.L.Out.state c.args.log.now) (c.in_ok-begun.ensures.begins q asks)
    (seen g.R.Out.state c.args.report.now c.args.report.now) (record { nothing = refl; whole = c.requires.report }))
