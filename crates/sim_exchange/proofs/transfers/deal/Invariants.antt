use Rattle.std.proofs.Common.{List, length, map, ◌++◌, ◌≡◌}
use Rattle.sim_exchange.specs.Dealt.{dealt}
use Rattle.sim_exchange.specs.Layout.{owner_of}
use Rattle.sim_exchange.proofs.transfers.deal.Given as goal

-- what was dealt so far
abbrev pub invariant-loop-transfer : goal.invariant-loop-transfer
invariant-loop-transfer g l = record {
  many : length l.lists.items ≡ l.fn.layout.parts;
  dealt : (os : List _) → map (λ v. v.items) l.fn.lists.items ≡ dealt g.S.Site.engine (owner_of l.fn.layout) l.fn.layout.parts os → map (λ v. v.items) l.lists.items ≡ dealt g.S.Site.engine (owner_of l.fn.layout) l.fn.layout.parts (os ++ l.yielded);
}
