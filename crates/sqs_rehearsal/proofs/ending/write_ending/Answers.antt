use Rattle.std.proofs.Common.{List, ℕ, subst}
use Rattle.sim_records.specs.Writes.{WroteSeveral}
use Rattle.sim_report.specs.Reports.{figures_if}
use Rattle.sqs_formats.specs.Output.{ending_of}
use Rattle.sqs_rehearsal.proofs.Writing.{ending-parts, first_and_second, first_stopped}
use Rattle.sqs_rehearsal.specs.Asked.{asked_of}
use Rattle.sqs_rehearsal.proofs.ending.write_ending.Goals as goal

pub returns-clause-written : goal.returns-clause-written
returns-clause-written g c = λ s r figures named counted are.
    let old = g.W.Out.state c.args.out.now in
    let mid = g.W.Out.state c.write_left.new.out in
    let new = g.W.Out.state c.finish.new.out in
    let result = c.finish.result in
    let first = c.in_ok-write_left.ensures.written s r figures named counted are in
    let second = c.finish.ensures.written (asked_of s figures) r.rows counted in
    subst (λ (t : List ℕ). WroteSeveral old new t result) (ending-parts s figures r)
    (first_and_second old mid new (ending_of s r) (figures_if (asked_of s figures) r.rows) c.in_ok-write_left.field-0 result first second)

pub returns-in_err-write_left-clause-written : goal.returns-in_err-write_left-clause-written
returns-in_err-write_left-clause-written g c = λ s r figures named counted are.
    let old = g.W.Out.state c.args.out.now in
    let new = g.W.Out.state c.write_left.new.out in
    let met = c.in_err-write_left.field-0.0 in
    let result = c.from_residual.result in
    let first = c.in_err-write_left.ensures.written s r figures named counted are in
    subst (λ (t : List ℕ). WroteSeveral old new t result) (ending-parts s figures r)
    (first_stopped old new (ending_of s r) (figures_if (asked_of s figures) r.rows) met result c.from_residual.ensures.1 first)
