use Rattle.sqs_model.proofs.NoneBefore.{leaves_none_before}
use Rattle.sqs_model.proofs.laws.handling_leaves_none_before.Goals as goal

pub returns : goal.returns
returns c = leaves_none_before
