use Rattle.std.proofs.Common.{◌∙◌, refl}
use Rattle.sim_report.proofs.Groups.{running-none}
use Rattle.sim_report.proofs.report.Report.new.Goals as goal

pub returns : goal.returns
returns c =
    let queues = c.in_ok-fresh_queues.ensures ∙ running-none c.args.names.items in
    rw queues refl
