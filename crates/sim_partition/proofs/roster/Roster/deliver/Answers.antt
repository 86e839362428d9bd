use Rattle.std.proofs.Common.{ap, map, ◌∙◌}
use Rattle.sim_partition.proofs.Delivered.{numbers_delivered}
use Rattle.sim_partition.proofs.Spent.{goes_on_with}
use Rattle.sim_partition.proofs.roster.Roster.deliver.Goals as goal

pub invariant_of-self-in_default-deliver_all : goal.invariant_of-self-in_default-deliver_all
invariant_of-self-in_default-deliver_all g c =
    let e = g.S.Site.engine in
    let i = c.self.inside in
    goes_on_with e g.S.Site.conditions i.spent i.numbers.items i.sites c.deliver_all.new.sites c.self.invariant.1 c.in_default-deliver_all.ensures.kept
    (ap (map e.number) c.in_default-deliver_all.ensures.delivered ∙ numbers_delivered g.met.S.Site.laws c.args.transfers.items i.sites.values)
