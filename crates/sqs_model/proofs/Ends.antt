-- The run of a sound scenario ends.
use Rattle.sim_engine.proofs.Ends as engine
use Rattle.sqs_model.specs.World.{RunEnds}
use Rattle.sqs_model.specs.Scenario.{opening}
use Rattle.sqs_model.proofs.Instance.{sqs_laws}
use Rattle.sqs_model.proofs.Opening.{opens_sound}

-- the law
pub ends : RunEnds
ends s h = engine.ends sqs_laws s.horizon (opening s) (opens_sound s h)
