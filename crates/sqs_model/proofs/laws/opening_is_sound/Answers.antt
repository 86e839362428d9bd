use Rattle.sqs_model.proofs.Opening.{opens_sound}
use Rattle.sqs_model.proofs.laws.opening_is_sound.Goals as goal

pub returns : goal.returns
returns c = opens_sound
