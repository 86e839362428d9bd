use Rattle.std.proofs.Common.{drop, length, vec_len, ◌<◌, ◌≡◌}
use Rattle.sim_exchange.specs.Heads.{AreLesserBut}
use Rattle.sim_exchange.proofs.heads.mend.Given as goal

-- all above but one have the lesser, and the leaves are as they were
abbrev pub invariant-loop-node : goal.invariant-loop-node
invariant-loop-node l = record {
  lesser : AreLesserBut l.nodes.items l.node;
  within : l.node < l.width;
  leaves : drop l.width l.nodes.items ≡ drop l.width l.fn.nodes.items;
  long : vec_len l.nodes ≡ vec_len l.fn.nodes;
  same : vec_len l.nodes ≡ length l.nodes.items;
}

abbrev pub decreases-loop-node : goal.decreases-loop-node
decreases-loop-node l = l.node
