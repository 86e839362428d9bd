use Rattle.std.proofs.Common.{ap, map, subst, sym, ◌∙◌}
use Rattle.sim_engine.specs.Members.{Ascends}
use Rattle.sim_engine.specs.World.{delivered_one}
use Rattle.sim_partition.proofs.Delivered.{ascends_delivered, delivered_more, numbers_delivered}
use Rattle.sim_partition.proofs.delivery.deliver_each.Goals as goal

pub deliver_one-requires-clause-ascends : goal.deliver_one-requires-clause-ascends
deliver_one-requires-clause-ascends g c =
    subst (Ascends g.S.Site.engine.number 0) (sym c.loop-transfer.invariant.delivered) (ascends_delivered g.met.S.Site.laws c.loop-transfer.yielded 0 c.args.sites.now.values c.requires.ascends)

pub deliver_one-requires-clause-numbers : goal.deliver_one-requires-clause-numbers
deliver_one-requires-clause-numbers g c =
    c.requires.numbers
    ∙ sym (ap (map g.S.Site.engine.number) c.loop-transfer.invariant.delivered ∙ numbers_delivered g.met.S.Site.laws c.loop-transfer.yielded c.args.sites.now.values)

pub loop-transfer-preserved : goal.loop-transfer-preserved
loop-transfer-preserved g c =
    record {
      delivered =
          c.in_ok-deliver_one.ensures.delivered
          ∙ ap (map (delivered_one g.S.Site.engine c.in-Some.transfer)) c.loop-transfer.invariant.delivered
          ∙ sym (delivered_more g.met.S.Site.laws c.loop-transfer.yielded c.in-Some.transfer c.args.sites.now.values);
      marked = c.in_ok-deliver_one.ensures.marked;
    }
