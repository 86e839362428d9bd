use Rattle.sim_draw.proofs.Weights.{AreAdded}
use Rattle.sim_draw.proofs.groups.total_weight.Given as goal

abbrev pub invariant-loop-group : goal.invariant-loop-group
invariant-loop-group l = AreAdded l.groups l.group-index l.total
