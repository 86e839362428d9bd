use Rattle.std.proofs.Common.{ap, rules, subst, sym, ◌∙◌}
use Rattle.std.specs.Map.{values_of}
use Rattle.std.specs.Ordering.{on}
use Rattle.std.specs.Prelude.{◌∷◌}
use Rattle.sim_clock.specs.Order.{IsBefore, key_cmp}
use Rattle.sqs_redrive.specs.Transfers.{transfer_key}
use Rattle.sim_site.proofs.Numbered.{front_arriving, front_inserted}
use Rattle.sim_site.proofs.later.Later.put_first.Goals as goal

pub invariant_of-self : goal.invariant_of-self
invariant_of-self c =
    front_arriving c.self.inside.first c.self.inside.next c.in-Some.first c.args.transfer (search rules) c.self.inside.map.entries c.insert.new.self.entries c.key.result c.self.invariant
    (subst (IsBefore (on transfer_key key_cmp) c.args.transfer) (sym c.self.view_is) c.requires) c.key.ensures c.in-Ok.ensures.entries c.insert.ensures.ordered

pub returns-in-Ok-clause-added : goal.returns-in-Ok-clause-added
returns-in-Ok-clause-added c =
    ap values_of
    (front_inserted c.self.inside.first c.self.inside.next c.in-Some.first c.args.transfer (search rules) c.self.inside.map.entries c.insert.new.self.entries c.key.result c.self.invariant
    (subst (IsBefore (on transfer_key key_cmp) c.args.transfer) (sym c.self.view_is) c.requires) c.key.ensures c.in-Ok.ensures.entries)
    ∙ ap (λ ts. c.args.transfer ∷ ts) c.self.view_is
