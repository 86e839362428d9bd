use Rattle.std.proofs.Common.{refl, subst, ◌<◌}
use Rattle.sqs_rehearsal.proofs.Stopped.{handed_over}
use Rattle.sqs_rehearsal.specs.Options.{Options}
use Rattle.sqs_rehearsal.specs.Writers.{seen}
use Rattle.sqs_rehearsal.specs.declared.rehearsal.Fault.TheVariants.{Refused}
use Rattle.sqs_rehearsal.proofs.rehearsal.rehearse_watched.Goals as goal

pub returns-in_err-begun : goal.returns-in_err-begun
returns-in_err-begun g c newest text of =
    handed_over _ _ c.from_residual-in_err-begun.result (Refused c.in_err-begun.field-0.0) c.from_residual-in_err-begun.ensures.1
    (c.in_err-begun.ensures.begins _ (record { stated = c.in_ok-scenario.ensures.value newest text of; options = refl })
    (seen g.R.Out.state c.args.report.now c.args.report.now) (record { nothing = refl; whole = c.requires.report }))

pub returns-in_err-ended : goal.returns-in_err-ended
returns-in_err-ended g c newest text of =
    let begun = c.in_ok-begun.ensures.begins _ (record { stated = c.in_ok-scenario.ensures.value newest text of; options = refl }) in
    let several = subst (λ (o : Options). 1 < o.workers) c.options.view_is c.if-options-le1.false in
    handed_over _ _ c.from_residual-in_err-ended.result (Refused c.in_err-ended.field-0.0) c.from_residual-in_err-ended.ensures.1
    (c.in_err-ended.ensures.logs _ (g.L.Out.state c.args.log.now) several begun
    (seen g.R.Out.state c.args.report.now c.args.report.now) (record { nothing = refl; whole = c.requires.report }))

pub returns : goal.returns
returns g c newest text of =
    let begun = c.in_ok-begun.ensures.begins _ (record { stated = c.in_ok-scenario.ensures.value newest text of; options = refl }) in
    let several = subst (λ (o : Options). 1 < o.workers) c.options.view_is c.if-options-le1.false in
    c.end.ensures _ (g.L.Out.state c.args.log.now) (c.in_ok-ended.ensures.logs _ (g.L.Out.state c.args.log.now) several begun)
