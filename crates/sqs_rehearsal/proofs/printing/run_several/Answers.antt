use Rattle.std.proofs.Common.{refl, sym, ◌∙◌, ◌≡◌}
use Rattle.sqs_rehearsal.proofs.Rehearsing.{logs_anyhow, logs_whole, stops_same}
use Rattle.sqs_rehearsal.proofs.Stopped.{handed_over}
use Rattle.sqs_rehearsal.proofs.printing.run_several.Goals as goal

pub returns-in_err-sites-clause-logs : goal.returns-in_err-sites-clause-logs
returns-in_err-sites-clause-logs g c q start several begun =
    let made = c.recording-recorder in
    let e = c.in_err-sites.field-0.0 in
    let stopped = c.in_err-sites.ensures.stops in
    let same = stops_same g.L.Out.state c.args.scenario made.result c.run_printed.new.sink e stopped in
    let log_is : c.log-1.given.0 ≡ c.run_printed.new.sink.out.now = c.log-1.given.1 (sym (same.writer ∙ made.ensures.log.0)) in
    rw log_is
    (handed_over _ _ c.from_residual.result e c.from_residual.ensures.1
    (logs_anyhow g.L.Out.state q c.args.scenario start c.args.begun c.args.log.now begun made.result c.run_printed.new.sink (made.ensures.names ∙ c.deref.ensures) made.ensures.log.1 e several stopped))

pub returns-clause-logs : goal.returns-clause-logs
returns-clause-logs g c q start several begun =
    let made = c.recording-recorder in
    let took = c.in_ok-sites.ensures.whole in
    let log_is : c.log-1.given.0 ≡ c.run_printed.new.sink.out.now = c.log-1.given.1 (sym (took.taken.same.writer ∙ made.ensures.log.0)) in
    let counts_are : c.counts-2-1.given.0 ≡ c.run_printed.new.sink.report.now = c.counts-2-1.given.1 (sym (took.taken.same.report ∙ made.ensures.counts.0)) in
    rw log_is
    (logs_whole g.L.Out.state q c.args.scenario start c.args.begun c.args.log.now begun made.result c.run_printed.new.sink (made.ensures.names ∙ c.deref.ensures) made.ensures.log.1
    made.ensures.counts.1 _ took c.in_ok-sites.ensures.counted refl counts_are)
