use Rattle.sqs_model.proofs.NoneBefore.{makes_nothing_due_now}
use Rattle.sqs_model.proofs.laws.handling_makes_nothing_due_now.Goals as goal

pub returns : goal.returns
returns c = makes_nothing_due_now
