use Rattle.sqs_model.proofs.SiteMoves.{moves_on}
use Rattle.sqs_model.proofs.laws.handling_moves_on.Goals as goal

pub returns : goal.returns
returns c = moves_on
