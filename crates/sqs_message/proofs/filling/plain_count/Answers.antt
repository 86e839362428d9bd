use Rattle.std.proofs.Common.{arith}
use Rattle.sqs_message.proofs.Filled.{one_more}
use Rattle.sqs_message.proofs.filling.plain_count.Goals as goal

pub loop-count-preserved : goal.loop-count-preserved
loop-count-preserved c =
    let i = c.loop-count.invariant in
    record {
      some = omega (arith, i.some);
      within = omega (arith, c.loop-count-test.true);
      plain = λ n. one_more n c.args.bytes.now c.loop-count.count c.loop-count-test.true c.if-bytes-count-ne123.true (i.plain n);
    }
