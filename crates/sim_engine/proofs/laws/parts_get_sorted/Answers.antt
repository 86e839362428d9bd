use Rattle.sim_engine.proofs.Exchange.{parts_get_sorted}
use Rattle.sim_engine.proofs.laws.parts_get_sorted.Goals as goal

pub returns : goal.returns
returns g c = parts_get_sorted g.met.S.Site.laws
