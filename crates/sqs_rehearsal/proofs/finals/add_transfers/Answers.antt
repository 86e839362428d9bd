use Rattle.std.proofs.Common.{rules}
use Rattle.sqs_rehearsal.specs.Left.{keyed}
use Rattle.sqs_rehearsal.proofs.Left.{adding_all, adding_more, adding_none}
use Rattle.sqs_rehearsal.proofs.finals.add_transfers.Goals as goal

pub loop-transfer-init : goal.loop-transfer-init
loop-transfer-init c = adding_none keyed c.args.transfers c.args.list.now.items c.into_iter-transfer-iterator.result c.into_iter-transfer-iterator.ensures.into_iter_gives

pub loop-transfer-preserved : goal.loop-transfer-preserved
loop-transfer-preserved c =
    adding_more keyed c.args.transfers c.args.list.now.items c.loop-transfer.transfer-iterator c.next.new.self c.in-Some.transfer.now (c.key.result, c.final_transfer.result)
    c.loop-transfer.list.items c.push.new.self.items c.in-Some.ensures.steps (search rules) c.in_ok-push.ensures.items c.loop-transfer.invariant

pub returns : goal.returns
returns c = adding_all keyed c.args.transfers c.args.list.now.items c.loop-transfer.transfer-iterator c.loop-transfer.list.items c.in-None.ensures.steps.0 c.loop-transfer.invariant
