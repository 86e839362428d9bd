use Rattle.std.proofs.Common.{◌≡◌, ◌/◌, ◌<◌, ◌≤◌, length}
use Rattle.sim_index.specs.Marks.{node_in}
use Rattle.sim_index.proofs.Mends.{Mending}
use Rattle.sim_index.proofs.marks.mend.Given as goal

abbrev pub invariant-loop-node : goal.invariant-loop-node
invariant-loop-node l =
    record {
      mending : Mending l.marks l.fn.nodes l.nodes l.place (l.node / 2);
      some : 1 ≤ l.node;
      within : l.node < length l.nodes;
      below : l.below ≡ node_in l.nodes l.node;
    }

abbrev pub decreases-loop-node : goal.decreases-loop-node
decreases-loop-node l = l.node
