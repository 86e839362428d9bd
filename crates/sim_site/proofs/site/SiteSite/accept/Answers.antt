use Rattle.std.proofs.Common.{List, Some, ap, sym, ◌∙◌}
use Rattle.sim_clock.specs.Order.{lesser}
use Rattle.sqs_model.specs.Dues.{least_due}
use Rattle.sqs_model.specs.Site.{Site}
use Rattle.sqs_redrive.specs.declared.transfers.Outbound.{Outbound}
use Rattle.sqs_model.proofs.Delivery.{least_due_accepted}
use Rattle.sim_site.proofs.site.SiteSite.accept.Goals as goal

pub invariant_of-self-2 : goal.invariant_of-self-2
invariant_of-self-2 c =
    let site : Site = record { core = c.self.inside.core; arriving = c.self.inside.arriving } in
    c.lesser-due.ensures
    ∙ (λ j. lesser (Some (c.key.ensures j)) (c.self.invariant j))
    ∙ sym (least_due_accepted c.args.transfer site)
    ∙ ap (λ (arriving : List Outbound). least_due (record { core = c.self.inside.core; arriving = arriving })) (sym c.in_ok-insert.ensures.added)
