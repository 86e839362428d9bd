use Rattle.sim_engine.proofs.Rounds.{rounds_are_picks}
use Rattle.sim_engine.proofs.laws.rounds_are_picks.Goals as goal

pub returns : goal.returns
returns g c = rounds_are_picks g.met.S.Site.laws
