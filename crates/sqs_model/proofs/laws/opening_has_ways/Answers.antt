use Rattle.sqs_model.proofs.WayOpening.{opens_with_ways}
use Rattle.sqs_model.proofs.laws.opening_has_ways.Goals as goal

pub returns : goal.returns
returns c = opens_with_ways
