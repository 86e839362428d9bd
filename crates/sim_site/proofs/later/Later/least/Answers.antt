use Rattle.std.proofs.Common.{Some, ap, map, rules, ◌∙◌}
use Rattle.sim_clock.specs.Order.{least}
use Rattle.sqs_redrive.specs.Transfers.{transfer_key}
use Rattle.sim_site.proofs.Numbered.{first_is_least}
use Rattle.sim_site.proofs.later.Later.least.Goals as goal

pub returns : goal.returns
returns c =
    ap (λ k. Some k) c.key.ensures ∙ first_is_least c.self.inside.first c.self.inside.next (c.in_ok-first.field-0-0.now, c.in_ok-first.first.now) c.self.inside.map.entries c.self.invariant (search rules)
    ∙ ap (λ ts. least (map transfer_key ts)) c.self.view_is
