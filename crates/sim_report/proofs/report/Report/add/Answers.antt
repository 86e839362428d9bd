use Rattle.std.proofs.Common.{arith, ◌++◌, ◌∙◌, ap, List, Option}
use Rattle.std.proofs.lemmas.Grind.{common_steps}
use Rattle.std.specs.Prelude.{option_map}
use Rattle.sim_report.specs.declared.queue.QueueCounts.{QueueCounts}
use Rattle.sim_report.specs.Figured.{FiguresState, figures_after}
use Rattle.sim_report.specs.Reports.{Counts}
use Rattle.sim_report.specs.Running.{queues_running, rows_added}
use Rattle.sim_report.proofs.Figuring.{asked-append}
use Rattle.sim_report.proofs.Groups.{running-append, written_back}
use Rattle.sim_report.proofs.report.Report.add.Goals as goal

pub returns : goal.returns
returns c = λ asked before is.
    let rows = c.args.rows.now in
    let queues = c.self.inside.queues in
    let all = written_back queues.len c.add_to.new.queues queues.items (grind (arith, common_steps)) (grind (arith, common_steps)) in
    let same = c.self.view_is ∙ is in
    let start = c.as_mut_slice.ensures.value ∙ ap (λ (r : Counts). r.queues) same in
    let added = c.in_ok-add_to.ensures.counted ∙ ap (λ (qs : List QueueCounts). rows_added qs rows) start ∙ running-append asked.queues before rows in
    let figures = ap (λ (r : Counts). option_map (figures_after rows) r.figures) same ∙ asked-append asked.figures before rows in
    let made : List QueueCounts → Option FiguresState → Counts = λ qs fs. record { queues = qs; figures = fs } in
    ap (λ (qs : List QueueCounts). made qs c.add_to.new.figures) (all ∙ added)
    ∙ ap (made (queues_running asked.queues (before ++ rows))) (c.in_ok-add_to.ensures.figured ∙ figures)
