use Rattle.sim_records.proofs.Writes.{several-one}
use Rattle.sim_report.specs.Reports.{figures_if}
use Rattle.std.proofs.Common.{Ok}
use Rattle.sqs_rehearsal.proofs.Writing.{flushed}
use Rattle.sqs_rehearsal.proofs.ending.finish.Goals as goal

pub returns-clause-written : goal.returns-clause-written
returns-clause-written g c = λ asked rows counted.
    let old = g.W.Out.state c.args.out.now in
    let mid = g.W.Out.state c.write_figures.new.out in
    let u = c.in_ok-write_figures.field-0 in
    let text = figures_if asked rows in
    flushed old mid (g.W.Out.state c.flush.new.out) text u c.flush.result
    (several-one old mid text (Ok u) (c.in_ok-write_figures.ensures.written asked rows counted)) c.flush.ensures.written
