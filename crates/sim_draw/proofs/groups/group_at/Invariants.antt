use Rattle.sim_draw.proofs.Weights.{IsLeft}
use Rattle.sim_draw.proofs.groups.group_at.Given as goal

abbrev pub invariant-loop-group : goal.invariant-loop-group
invariant-loop-group l = IsLeft l.place l.groups l.group-index l.before
