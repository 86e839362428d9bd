use Rattle.sim_engine.proofs.ReadByParts.{machines_are_read_by_parts}
use Rattle.sim_engine.proofs.laws.machines_are_read_by_parts.Goals as goal

pub returns : goal.returns
returns g c = machines_are_read_by_parts g.met.S.Site.laws
