use Rattle.std.proofs.Common.{[], map, ℕ, ◌≡◌}
use Rattle.sim_exchange.specs.Dealt.{dealt}
use Rattle.sim_exchange.proofs.transfers.no_lists.Given as goal

-- the lists so far have nothing in them
abbrev pub invariant-loop-part : goal.invariant-loop-part
invariant-loop-part g l = (owner : ℕ → ℕ) → map (λ v. v.items) l.lists.items ≡ dealt g.S.Site.engine owner l._part []
