use Rattle.std.proofs.Common.{map}
use Rattle.sim_engine.specs.Exchange.{sorted}
use Rattle.sim_exchange.proofs.Dealing.{AreChanged}
use Rattle.sim_exchange.proofs.transfers.sort_each.Given as goal

-- the lists so far are in order, and the others as they were
abbrev pub invariant-loop-list : goal.invariant-loop-list
invariant-loop-list g l = AreChanged (sorted g.S.Site.engine) (map (λ v. v.items) l.fn.lists.items) (map (λ v. v.items) l.list-items) l.list-index
