use Rattle.sqs_model.proofs.Kept.{handled_recent}
use Rattle.sqs_model.proofs.laws.handling_stays_recent.Goals as goal

pub returns : goal.returns
returns c = handled_recent
