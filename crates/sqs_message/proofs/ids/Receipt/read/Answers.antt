use Rattle.sqs_message.proofs.Receipts.{read_answer}
use Rattle.sqs_message.proofs.ids.Receipt.read.Goals as goal

pub returns-clause-named : goal.returns-clause-named
returns-clause-named c = read_answer c.args.text.now c.read_numbers.result c.read_numbers.ensures.sound c.read_numbers.ensures.complete
