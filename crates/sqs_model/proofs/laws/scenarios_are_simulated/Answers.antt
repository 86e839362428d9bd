use Rattle.sqs_model.proofs.Sites.{sound_simulated}
use Rattle.sqs_model.proofs.laws.scenarios_are_simulated.Goals as goal

pub returns : goal.returns
returns c = sound_simulated
