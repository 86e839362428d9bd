use Rattle.sqs_laws.proofs.laws.changes_stay_in_reach.Goals as goal
use Rattle.sqs_laws.proofs.Reach.{changes_stay}

pub returns : goal.returns
returns c = changes_stay
