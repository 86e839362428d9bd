use Rattle.sim_site.proofs.Numbered.{none_arriving}
use Rattle.sim_site.proofs.later.Later.new.Goals as goal

pub invariant_of-result : goal.invariant_of-result
invariant_of-result c = none_arriving _ c.new.result.entries c.new.ensures.empty
