use Rattle.sqs_model.proofs.Delivery.{accepted_sorted, handled_sorted}
use Rattle.sqs_model.proofs.laws.sorted_sites_stay_sorted.Goals as goal

pub returns : goal.returns
returns c = λ s w. record { accepting = λ o. accepted_sorted o s w; handling = λ key. handled_sorted key s w }
