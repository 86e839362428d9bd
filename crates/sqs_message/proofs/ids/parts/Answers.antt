use Rattle.std.proofs.Common.{lit<}
use Rattle.sqs_message.proofs.Dashes.{parts_by}
use Rattle.sqs_message.proofs.ids.parts.Goals as goal

pub returns-clause-complete : goal.returns-clause-complete
returns-clause-complete c = parts_by c.args.text.now c.split_once.result (c.split_once.ensures.byte (lit< tt) (λ w o f. f))
