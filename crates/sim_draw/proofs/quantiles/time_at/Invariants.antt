use Rattle.std.proofs.Common.{drop, ◌∷◌}
use Rattle.sim_draw.proofs.Between.{AreLeft}
use Rattle.sim_draw.proofs.quantiles.time_at.Given as goal

abbrev pub invariant-loop-second : goal.invariant-loop-second
invariant-loop-second l = AreLeft l.fn.word l.fn.quantiles (l.first ∷ drop l.second-index l.others)
