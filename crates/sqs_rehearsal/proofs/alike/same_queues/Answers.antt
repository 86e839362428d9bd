use Rattle.std.proofs.Common.{arith}
use Rattle.sqs_rehearsal.proofs.alike.same_queues.Goals as goal

pub returns-clause-each : goal.returns-clause-each
returns-clause-each c = λ n l. c.loop-queue.invariant.each n (omega (arith, c.loop-queue.invariant.many, l))
