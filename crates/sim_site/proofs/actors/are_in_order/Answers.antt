use Rattle.std.proofs.Common.{arith}
use Rattle.sim_site.proofs.Ordered.{rise_whole}
use Rattle.sim_site.proofs.actors.are_in_order.Goals as goal

pub returns : goal.returns
returns c = λ _. rise_whole c.args.actors.now c.loop-i.i (omega (arith, c.loop-i-test.false)) c.loop-i.invariant.rise
