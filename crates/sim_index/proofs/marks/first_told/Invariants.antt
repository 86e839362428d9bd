use Rattle.std.proofs.Common.{◌*◌, ◌-◌, ◌<◌, ◌≤◌}
use Rattle.sim_index.specs.Marks.{bare}
use Rattle.sim_index.proofs.Told.{IsFirstTold}
use Rattle.sim_index.proofs.marks.first_told.Given as goal

abbrev pub invariant-loop-node : goal.invariant-loop-node
invariant-loop-node l = record { some : 1 ≤ l.node; within : l.node < 2 * l.width; first : IsFirstTold (bare l.nodes) l.flags l.node }

abbrev pub decreases-loop-node : goal.decreases-loop-node
decreases-loop-node l = 2 * l.width - l.node
