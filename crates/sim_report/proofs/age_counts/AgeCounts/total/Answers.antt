use Rattle.std.proofs.Common.{arith}
use Rattle.sim_report.proofs.age_counts.AgeCounts.total.Goals as goal

pub total-requires : goal.total-requires
total-requires c = rw c.as_slice.ensures.value (omega (arith, c.self.invariant))
