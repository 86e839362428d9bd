use Rattle.sqs_model.proofs.Ways.{ways_accepted}
use Rattle.sqs_model.proofs.laws.accepting_keeps_ways.Goals as goal

pub returns : goal.returns
returns c = ways_accepted
