use Rattle.std.proofs.Common.{ap, map}
use Rattle.sqs_model.specs.Finals.{final_message, messages_at}
use Rattle.sqs_rehearsal.proofs.Left.{site_added}
use Rattle.sqs_rehearsal.proofs.finals.messages_of.Goals as goal

pub loop-site-preserved : goal.loop-site-preserved
loop-site-preserved c =
    let x = c.site-item.result in
    site_added messages_at c.args.sites.now c.loop-site.site-index x x c.loop-site.messages.items c.add_messages.new.messages.items _ c.loop-site-test.true c.site-item.is
    (ap (λ t. map (final_message t) t.records) c.queue.ensures) c.loop-site.invariant c.in_ok-add_messages.ensures
