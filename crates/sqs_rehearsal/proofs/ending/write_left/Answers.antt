use Rattle.std.proofs.Common.{◌∙◌, Err, List, Ok, ap, subst}
use Rattle.sim_records.proofs.Writes.{several-one}
use Rattle.sim_records.specs.Writes.{WroteSeveral}
use Rattle.sim_report.specs.Left.{lefts}
use Rattle.sqs_formats.specs.Finals.{finals_text}
use Rattle.sqs_formats.specs.Output.{report_of}
use Rattle.sqs_formats.specs.Report.{report_text}
use Rattle.sqs_formats.specs.Rows.{Names}
use Rattle.sqs_model.specs.Finals.{finals_of}
use Rattle.sqs_model.specs.Site.{Site}
use Rattle.sqs_rehearsal.specs.Asked.{asked_of}
use Rattle.sqs_rehearsal.proofs.Writing.{first_and_second, first_stopped}
use Rattle.sqs_rehearsal.proofs.ending.write_left.Goals as goal

pub returns-in_err-write_state-clause-written : goal.returns-in_err-write_state-clause-written
returns-in_err-write_state-clause-written g c = λ s r figures named counted are.
    let old = g.W.Out.state c.args.out.now in
    let new = g.W.Out.state c.write_state.new.out in
    let met = c.in_err-write_state.field-0.0 in
    let names = subst (λ (n : Names). WroteSeveral old new (finals_text n (finals_of c.args.sites.now)) (Err met)) named c.in_err-write_state.ensures.written in
    let first = subst (λ (w : List Site). WroteSeveral old new (finals_text s.names (finals_of w)) (Err met)) are names in
    first_stopped old new (finals_text s.names (finals_of r.sites)) (report_text (report_of s r)) met c.from_residual-in_err-write_state.result c.from_residual-in_err-write_state.ensures.1 first

pub returns-clause-written : goal.returns-clause-written
returns-clause-written g c = λ s r figures named counted are.
    let old = g.W.Out.state c.args.out.now in
    let mid = g.W.Out.state c.write_state.new.out in
    let new = g.W.Out.state c.write_counted.new.out in
    let u = c.in_ok-write_state.field-0 in
    let result = c.write_counted.result in
    let names = subst (λ (n : Names). WroteSeveral old mid (finals_text n (finals_of c.args.sites.now)) (Ok u)) named c.in_ok-write_state.ensures.written in
    let first = subst (λ (w : List Site). WroteSeveral old mid (finals_text s.names (finals_of w)) (Ok u)) are names in
    let queues = c.args.report.now.queues in
    let left = c.in_ok-write_state.ensures.counted queues c.in_ok-left.ensures ∙ ap (λ (w : List Site). lefts queues (finals_of w).messages) are in
    let second = c.write_counted.ensures.written (asked_of s figures) r.rows (finals_of r.sites) counted left in
    first_and_second old mid new (finals_text s.names (finals_of r.sites)) (report_text (report_of s r)) u result first
    (several-one mid new (report_text (report_of s r)) result second)
