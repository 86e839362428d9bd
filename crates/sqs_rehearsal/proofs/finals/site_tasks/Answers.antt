use Rattle.std.proofs.Common.{ap, map}
use Rattle.sqs_model.specs.Finals.{final_task}
use Rattle.sqs_rehearsal.specs.Left.{tasks_at}
use Rattle.sqs_rehearsal.proofs.Left.{site_added}
use Rattle.sqs_rehearsal.proofs.finals.site_tasks.Goals as goal

pub loop-site-preserved : goal.loop-site-preserved
loop-site-preserved c =
    let x = c.site-item.result in
    site_added tasks_at c.args.sites.now c.loop-site.site-index x x c.loop-site.tasks.items c.add_tasks.new.list.items _ c.loop-site-test.true c.site-item.is
    (ap (map final_task) c.tasks.ensures) c.loop-site.invariant c.in_ok-add_tasks.ensures
