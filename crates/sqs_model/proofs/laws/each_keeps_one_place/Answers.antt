use Rattle.sqs_model.proofs.WorldAccounts.{each_keeps}
use Rattle.sqs_model.proofs.laws.each_keeps_one_place.Goals as goal

pub returns : goal.returns
returns c = each_keeps
