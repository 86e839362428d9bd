use Rattle.std.proofs.Common.{ap, map, ◌∙◌}
use Rattle.sim_exchange.specs.Layout.{owner_of}
use Rattle.sim_exchange.proofs.Dealing.{dealt_next}
use Rattle.sim_exchange.proofs.transfers.deal.Goals as goal

pub loop-transfer-preserved : goal.loop-transfer-preserved
loop-transfer-preserved g c = record {
  many = c.in_ok-put.ensures.lists ∙ c.loop-transfer.invariant.many;
  dealt = λ os h.
      dealt_next g.S.Site.engine (owner_of c.args.layout.now) c.args.layout.now.parts (map (λ v. v.items) c.loop-transfer.lists.items) (map (λ v. v.items) c.put.new.lists.items)
      os c.loop-transfer.yielded c.in-Some.transfer c.part_of-part.result (c.part_of-part.ensures.owner ∙ ap (owner_of c.args.layout.now) c.to.ensures) c.part_of-part.ensures.below
      (c.loop-transfer.invariant.dealt os h) c.in_ok-put.ensures.put;
}
