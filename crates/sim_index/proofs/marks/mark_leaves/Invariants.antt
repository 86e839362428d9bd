use Rattle.std.proofs.Common.{ℕ, ◌≡◌, ◌+◌, ◌*◌, ◌<◌, length, vec_len}
use Rattle.sim_index.specs.Marks.{node, node_in, rank_of}
use Rattle.sim_index.proofs.marks.mark_leaves.Given as goal

abbrev pub invariant-loop-place : goal.invariant-loop-place
invariant-loop-place l =
    record {
      long : vec_len l.nodes ≡ 2 * length l.marks;
      same : vec_len l.nodes ≡ length l.nodes.items;
      there : (i : ℕ) → i < length l.nodes.items → (node_in l.nodes.items i).place < length l.marks;
      named : (i : ℕ) → i < length l.marks → (node_in l.nodes.items (length l.marks + i)).place ≡ i;
      single : (i : ℕ) → i < l.place → node_in l.nodes.items (length l.marks + i) ≡ record { rank = rank_of (node l.marks i).due; place = i; flags = (node l.marks i).flags };
    }
