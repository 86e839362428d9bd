use Rattle.std.proofs.Common.{ℕ, ◌≡◌, ◌+◌, ◌*◌, ◌<◌, ◌≤◌, length, vec_len}
use Rattle.sim_index.specs.Marks.{AreLeaves, IsBoth, node_in}
use Rattle.sim_index.proofs.marks.write_above.Given as goal

abbrev pub invariant-loop-i : goal.invariant-loop-i
invariant-loop-i l =
    record {
      leaves : AreLeaves l.marks l.nodes.items;
      done : (j : ℕ) → l.i ≤ j → 2 * j + 1 < length l.nodes.items → IsBoth l.marks (node_in l.nodes.items (2 * j)) (node_in l.nodes.items (2 * j + 1)) (node_in l.nodes.items j);
      same : vec_len l.nodes ≡ length l.nodes.items;
    }
