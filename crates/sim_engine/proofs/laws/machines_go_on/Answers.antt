use Rattle.sim_engine.proofs.GoingOn.{machines_go_on}
use Rattle.sim_engine.proofs.laws.machines_go_on.Goals as goal

pub returns : goal.returns
returns g c = machines_go_on g.met.S.Site.laws
