use Rattle.sim_engine.proofs.Exchange.{sorting_keeps_each}
use Rattle.sim_engine.proofs.laws.sorting_keeps_each.Goals as goal

pub returns : goal.returns
returns g c = sorting_keeps_each g.met.S.Site.laws
