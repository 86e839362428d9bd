use Rattle.sqs_model.proofs.Giving.{gives}
use Rattle.sqs_model.proofs.laws.giving_is_giving_then_returning.Goals as goal

pub returns : goal.returns
returns c = gives
