use Rattle.sim_actor.proofs.Batches.{all_failed}
use Rattle.sim_actor.proofs.holding.Holding.fail_all.Goals as goal

pub returns : goal.returns
returns c = rw (← c.self.view_is, c.len-self-inside.ensures, c.self.inside.messages.ok.0) (all_failed c.self.inside.failed c.self.inside.done c.self.inside.messages.items c.self.invariant)
