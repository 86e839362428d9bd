use Rattle.std.proofs.Common.{IfSome, Some, ap, map, subst, sym, ◌≡◌, ◌∙◌}
use Rattle.sim_clock.specs.Order.{least}
use Rattle.sqs_redrive.specs.Transfers.{transfer_key}
use Rattle.sim_site.proofs.Rings.{behind_is_least, none_left, taken_is_least}
use Rattle.sim_site.proofs.arrivals.Arrivals.take_first.Goals as goal

pub returns-in-Some-clause-least : goal.returns-in-Some-clause-least
returns-in-Some-clause-least c =
    ap (λ ts. least (map transfer_key ts)) (sym c.self.view_is)
    ∙ taken_is_least c.in-Some.first c.pop_front.new.self.items c.self.inside.soon.items c.self.inside.later c.in-Some.ensures.items c.self.invariant

pub returns-in-None-clause-least : goal.returns-in-None-clause-least
returns-in-None-clause-least c =
    subst (λ ts. IfSome c.take_first.result (λ first. least (map transfer_key ts) ≡ Some (transfer_key first))) c.self.view_is
    (behind_is_least c.take_first.result c.self.inside.soon.items c.self.inside.later c.take_first.new.self (none_left c.self.inside.soon.items c.pop_front.new.self.items c.in-None.ensures.items c.in-None.ensures.rest) c.self.invariant c.take_first.ensures)
