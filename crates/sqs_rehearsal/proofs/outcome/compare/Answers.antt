use Rattle.std.proofs.Common.{Err, None, Ok, subst}
use Rattle.sim_records.proofs.Writes.{several-one, several_handed_on}
use Rattle.sim_records.specs.Writes.{Wrote}
use Rattle.sqs_formats.specs.Comparison.{comparison}
use Rattle.sqs_formats.specs.Output.{queue_names, report_of}
use Rattle.sqs_formats.specs.Report.{report}
use Rattle.sqs_model.specs.declared.finals.Finals.{Finals}
use Rattle.sqs_rehearsal.specs.Asked.{asked_of}
use Rattle.sqs_rehearsal.proofs.Writing.{flushed}
use Rattle.sqs_rehearsal.proofs.outcome.compare.Goals as goal

pub returns-clause-written : goal.returns-clause-written
returns-clause-written g c s t r u left right =
    let old = g.W.Out.state c.args.out.now in
    let mid = g.W.Out.state c.compare.new.out in
    let new = g.W.Out.state c.flush.new.out in
    let ok = c.in_ok-compare.field-0 in
    let told = c.in_ok-compare.ensures.written (asked_of s None) (asked_of t None) r.rows u.rows left.counted right.counted in
    let first = subst (λ (f : Finals). Wrote old mid (comparison (report (queue_names s) r.rows f) (report (queue_names t) u.rows c.args.second.now.finals)) (Ok ok)) left.finals told in
    let both = subst (λ (f : Finals). Wrote old mid (comparison (report_of s r) (report (queue_names t) u.rows f)) (Ok ok)) right.finals first in
    flushed old mid new (comparison (report_of s r) (report_of t u)) ok c.flush.result (several-one old mid (comparison (report_of s r) (report_of t u)) (Ok ok) both) c.flush.ensures.written

pub returns-in_err-compare-clause-written : goal.returns-in_err-compare-clause-written
returns-in_err-compare-clause-written g c = λ s t r u left right.
    let old = g.W.Out.state c.args.out.now in
    let new = g.W.Out.state c.compare.new.out in
    let met = c.in_err-compare.field-0.0 in
    let told = c.in_err-compare.ensures.written (asked_of s None) (asked_of t None) r.rows u.rows left.counted right.counted in
    let first = subst (λ (f : Finals). Wrote old new (comparison (report (queue_names s) r.rows f) (report (queue_names t) u.rows c.args.second.now.finals)) (Err met)) left.finals told in
    let both = subst (λ (f : Finals). Wrote old new (comparison (report_of s r) (report (queue_names t) u.rows f)) (Err met)) right.finals first in
    several_handed_on old new (comparison (report_of s r) (report_of t u)) met c.from_residual.result c.from_residual.ensures.1
    (several-one old new (comparison (report_of s r) (report_of t u)) (Err met) both)
