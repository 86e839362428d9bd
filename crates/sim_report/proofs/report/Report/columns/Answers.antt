use Rattle.std.proofs.Common.{◌∙◌, ap, sym, List}
use Rattle.sim_report.specs.declared.queue.QueueCounts.{QueueCounts}
use Rattle.sim_report.specs.Left.{lefts}
use Rattle.sim_report.specs.Reports.{Counts}
use Rattle.sim_report.specs.Running.{columns_of_all}
use Rattle.sim_report.proofs.Groups.{columns-report}
use Rattle.sim_report.proofs.report.Report.columns.Goals as goal

pub returns : goal.returns
returns c = λ asked rows finals is counted.
    let own = c.as_slice.ensures.value ∙ ap (λ (r : Counts). r.queues) c.self.view_is in
    let queues = ap (λ (r : Counts). r.queues) is in
    let left = c.of_queues.ensures ∙ counted ∙ ap (λ (qs : List QueueCounts). lefts qs finals.messages) (sym own) in
    let same = ap (λ (qs : List QueueCounts). columns_of_all qs finals.messages) (own ∙ queues) ∙ columns-report asked.queues rows finals in
    rw same at (c.columns_of.ensures finals.messages left)
