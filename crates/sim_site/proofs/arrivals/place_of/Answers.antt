use Rattle.std.proofs.Common.{ap, rules, sym, ◌∙◌}
use Rattle.std.specs.Ordering.{is_lt}
use Rattle.sim_clock.specs.Order.{key_cmp}
use Rattle.sim_site.proofs.Rings.{placed}
use Rattle.sim_site.proofs.arrivals.place_of.Goals as goal

pub returns-else-is_before-clause-place : goal.returns-else-is_before-clause-place
returns-else-is_before-clause-place c =
    placed c.args.key c.index.result.now c.args.soon.now.items c.loop-place.place c.requires (search rules) c.loop-place.invariant.0 c.loop-place.invariant.1 c.index.ensures
    (ap (λ k. is_lt (key_cmp c.args.key k)) (sym c.key.ensures) ∙ sym c.is_before.ensures ∙ c.if-is_before.false)
