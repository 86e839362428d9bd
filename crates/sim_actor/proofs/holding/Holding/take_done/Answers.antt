use Rattle.std.proofs.Common.{arith}
use Rattle.sim_actor.proofs.Batches.{done_taken}
use Rattle.sim_actor.proofs.holding.Holding.take_done.Goals as goal

pub returns : goal.returns
returns c =
    rw (← c.self.view_is) (done_taken c.self.inside.failed c.self.inside.done c.self.inside.messages.items c.self.invariant _ c.remove.result c.remove.new.self.items c.self.inside.messages.ok.0 (omega (arith, c.if-self-eq0.false)) c.remove.ensures.variant c.remove.ensures.items c.remove.ensures.value)
