use Rattle.std.proofs.Common.{Some, ap, map, rules, ◌∙◌}
use Rattle.sim_clock.specs.Order.{least}
use Rattle.sqs_redrive.specs.Transfers.{transfer_key}
use Rattle.sim_site.proofs.Rings.{front_is_least}
use Rattle.sim_site.proofs.arrivals.Arrivals.least.Goals as goal

pub returns-in-Some : goal.returns-in-Some
returns-in-Some c =
    ap (λ k. Some k) c.key.ensures ∙ front_is_least c.in-Some.first.now c.self.inside.soon.items c.self.inside.later c.self.invariant (search rules) c.in-Some.ensures.lookup
    ∙ ap (λ ts. least (map transfer_key ts)) c.self.view_is
