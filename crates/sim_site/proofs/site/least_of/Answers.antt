use Rattle.sim_site.proofs.Least.{due_parts}
use Rattle.sim_site.proofs.site.least_of.Goals as goal

pub returns-clause-due : goal.returns-clause-due
returns-clause-due c = rw (c.lesser.ensures, c.least-arrival.ensures, c.least_due-other.ensures.due) (due_parts c.args.core.now c.args.arriving.now)
