use Rattle.sqs_model.proofs.TurnsEnd.{turns_end}
use Rattle.sqs_model.proofs.laws.turns_end.Goals as goal

pub returns : goal.returns
returns c = turns_end
