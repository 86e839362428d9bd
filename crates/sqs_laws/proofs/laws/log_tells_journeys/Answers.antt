use Rattle.sqs_laws.proofs.laws.log_tells_journeys.Goals as goal
use Rattle.sqs_laws.proofs.Told.{journeys_told}

pub returns : goal.returns
returns c = journeys_told
