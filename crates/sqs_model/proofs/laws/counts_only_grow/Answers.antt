use Rattle.sqs_model.proofs.Growth.{handled_up}
use Rattle.sqs_model.proofs.laws.counts_only_grow.Goals as goal

pub returns : goal.returns
returns c = handled_up
