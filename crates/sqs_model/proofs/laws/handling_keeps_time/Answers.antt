use Rattle.sqs_model.proofs.Times.{handled_timely}
use Rattle.sqs_model.proofs.laws.handling_keeps_time.Goals as goal

pub returns : goal.returns
returns c = handled_timely
