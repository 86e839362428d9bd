use Rattle.sqs_model.proofs.Ways.{goes_along}
use Rattle.sqs_model.proofs.laws.handling_goes_along_ways.Goals as goal

pub returns : goal.returns
returns c = goes_along
