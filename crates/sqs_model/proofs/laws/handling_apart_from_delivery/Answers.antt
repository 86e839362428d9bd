use Rattle.sqs_model.proofs.Delivery.{handled_accepted}
use Rattle.sqs_model.proofs.laws.handling_apart_from_delivery.Goals as goal

pub returns : goal.returns
returns c = λ key o s n w. handled_accepted key o s n w
