use Rattle.sqs_laws.proofs.laws.log_says_what_is_left.Goals as goal
use Rattle.sqs_laws.proofs.Left.{left_is_told}

pub returns : goal.returns
returns c = left_is_told
