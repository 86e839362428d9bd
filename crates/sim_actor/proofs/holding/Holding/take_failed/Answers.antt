use Rattle.std.proofs.Common.{arith}
use Rattle.sim_actor.proofs.Batches.{failed_taken}
use Rattle.sim_actor.proofs.holding.Holding.take_failed.Goals as goal

pub returns : goal.returns
returns c =
    rw (← c.self.view_is) (failed_taken c.self.inside.failed c.self.inside.done c.self.inside.messages.items c.self.invariant _ c.pop_front.result c.pop_front.new.self.items c.self.inside.messages.ok.0 (omega (arith, c.if-self-eq0.false)) c.pop_front.ensures.variant c.pop_front.ensures.items)
