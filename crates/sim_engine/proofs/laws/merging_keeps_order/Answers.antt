use Rattle.sim_engine.proofs.MergedLists.{is_merge}
use Rattle.sim_engine.proofs.Rows.{row_total}
use Rattle.sim_engine.proofs.laws.merging_keeps_order.Goals as goal

pub returns : goal.returns
returns g c = is_merge (row_total g.met.S.Site.laws)
