use Rattle.std.proofs.Common.{ap, map, subst, ◌∙◌}
use Rattle.std.specs.Prelude.{IfOk}
use Rattle.sim_engine.specs.Rounds.{PartRun}
use Rattle.sim_partition.specs.Sites.{HasDue}
use Rattle.sim_partition.proofs.Handled.{numbers_among}
use Rattle.sim_partition.proofs.Spent.{goes_on_with, now_lives}
use Rattle.sim_partition.proofs.roster.Roster.step_into.Goals as goal

pub invariant_of-self-in_default-handle_least : goal.invariant_of-self-in_default-handle_least
invariant_of-self-in_default-handle_least g c =
    let e = g.S.Site.engine in
    let i = c.self.inside in
    let w = i.sites.values in
    let due : HasDue e w = subst (λ v. IfOk v (HasDue e)) (now_lives i.spent w c.args.self.now c.in_default.is c.self.view_is) c.requires.due in
    goes_on_with e g.S.Site.conditions i.spent i.numbers.items i.sites c.handle_least.new.sites c.self.invariant.1 c.in_default-handle_least.ensures.kept
    (ap (λ (r : PartRun e). map e.number r.sites) (c.in_default-handle_least.ensures.handled due.key due.due) ∙ numbers_among g.met.S.Site.laws due.key w)
