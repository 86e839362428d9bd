use Rattle.std.proofs.Common.{ap, map}
use Rattle.sqs_rehearsal.specs.Left.{keyed, keyed_at}
use Rattle.sqs_rehearsal.proofs.Left.{site_added}
use Rattle.sqs_rehearsal.proofs.finals.keyed_transfers.Goals as goal

pub loop-site-preserved : goal.loop-site-preserved
loop-site-preserved c =
    let x = c.site-item.result in
    site_added keyed_at c.args.sites.now c.loop-site.site-index x x c.loop-site.transfers.items c.add_transfers.new.list.items _ c.loop-site-test.true c.site-item.is
    (ap (map keyed) c.arriving.ensures.list) c.loop-site.invariant c.in_ok-add_transfers.ensures
