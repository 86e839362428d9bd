use Rattle.std.proofs.Common.{arith}
use Rattle.sim_report.proofs.there.There.lift.Goals as goal

pub invariant_of-self : goal.invariant_of-self
invariant_of-self c =
    record {
      below = c.retire-retired.ensures.below;
      filled = rw c.clear.ensures.items tt;
      fits = rw c.clear.ensures.items (omega (arith, c.retire-retired.ensures.fits));
    }
