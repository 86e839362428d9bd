use Rattle.sim_site.proofs.Numbered.{behind_first}
use Rattle.sim_site.proofs.later.Later.take_first.Goals as goal

pub invariant_of-self-2 : goal.invariant_of-self-2
invariant_of-self-2 c = behind_first c.self.inside.first c.self.inside.next _ c.self.inside.map.entries _ c.self.invariant c.in_ok-first.ensures.removal c.in_ok-first.ensures.ordered
