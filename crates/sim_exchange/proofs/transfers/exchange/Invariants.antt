use Rattle.std.proofs.Common.{flat_map, map, ◌≡◌}
use Rattle.sim_exchange.specs.Dealt.{dealt}
use Rattle.sim_exchange.specs.Layout.{owner_of}
use Rattle.sim_exchange.proofs.transfers.exchange.Given as goal

-- what was dealt so far
abbrev pub invariant-loop-list : goal.invariant-loop-list
invariant-loop-list g l = map (λ v. v.items) l.lists.items ≡ dealt g.S.Site.engine (owner_of l.layout) l.layout.parts (flat_map (λ v. v.items) l.yielded)
