use Rattle.std.proofs.Common.{refl}
use Rattle.sqs_rehearsal.proofs.Rehearsing.{stops_headless, stops_unsplit}
use Rattle.sqs_rehearsal.proofs.Stopped.{handed_over}
use Rattle.sqs_rehearsal.specs.Writers.{seen}
use Rattle.sqs_rehearsal.proofs.steps.begin.Goals as goal

pub returns-in_err-split-clause-begins : goal.returns-in_err-split-clause-begins
returns-in_err-split-clause-begins g c q asks =
    let log = seen g.L.Out.state c.args.log.now c.args.log.now in
    let e = c.in_err-split.field-0.0 in
    handed_over _ _ c.from_residual.result e c.from_residual.ensures.1
    (stops_unsplit q c.args.scenario.now c.args.options.now asks log e c.in_err-split.ensures.refused (record { nothing = refl; whole = c.requires }))

pub returns-in_err-write_header-clause-begins : goal.returns-in_err-write_header-clause-begins
returns-in_err-write_header-clause-begins g c q asks =
    let log = seen g.L.Out.state c.args.log.now c.write_header.new.out in
    let e = c.in_err-write_header.field-0.0 in
    handed_over _ _ c.from_residual-in_err-write_header.result e c.from_residual-in_err-write_header.ensures.1
    (stops_headless q c.args.scenario.now c.args.options.now asks c.horizon-horizon.ensures.range c.in_ok-split.ensures.allowed log e c.in_err-write_header.ensures)
