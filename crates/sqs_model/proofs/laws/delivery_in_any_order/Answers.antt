use Rattle.std.proofs.Common.{ap}
use Rattle.sim_engine.proofs.Delivery.{sites_swap}
use Rattle.sqs_model.specs.World.{delivered}
use Rattle.sqs_model.proofs.Instance.{sqs_laws}
use Rattle.sqs_model.proofs.laws.delivery_in_any_order.Goals as goal

pub returns : goal.returns
returns c = λ o p os sites n. ap (delivered os) (sites_swap sqs_laws p o sites n)
