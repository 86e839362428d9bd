use Rattle.sqs_model.proofs.Ends.{ends}
use Rattle.sqs_model.proofs.laws.run_ends.Goals as goal

pub returns : goal.returns
returns c = ends
