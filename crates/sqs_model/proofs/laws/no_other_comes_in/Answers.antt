use Rattle.sqs_model.proofs.WorldAccounts.{no_other}
use Rattle.sqs_model.proofs.laws.no_other_comes_in.Goals as goal

pub returns : goal.returns
returns c = no_other
