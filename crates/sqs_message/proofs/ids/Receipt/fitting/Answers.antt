use Rattle.std.proofs.Common.{arith}
use Rattle.sqs_message.proofs.Receipts.{own_answer}
use Rattle.sqs_message.proofs.ids.Receipt.fitting.Goals as goal

pub returns : goal.returns
returns c = own_answer c.args.self c.within.result (omega arith) (omega arith) (omega arith) c.within.ensures.sound c.within.ensures.complete
