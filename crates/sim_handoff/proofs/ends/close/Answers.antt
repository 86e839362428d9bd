use Rattle.std.proofs.Common.{ℕ, ◌<◌, ap, subst, arith, slice_index_or}
use Rattle.std.specs.Slots.{slots_items}
use Rattle.sim_handoff.specs.Place.{place_record}
use Rattle.sim_handoff.specs.Ends.{IsLeft}
use Rattle.sim_handoff.specs.declared.ends.Left.TheVariants.{Empty}
use Rattle.sim_handoff.proofs.Endings.{ends}
use Rattle.sim_handoff.proofs.ends.close.Goals as goal

pub returns-clause-left : goal.returns-clause-left
returns-clause-left g c = λ p low.
    let k : ℕ = c.args.handoff.table.shared.key in let sized = c.args.handoff.sized in let below : p < k = omega arith in
    let after = c.take_in_all.new.owner in
    let it = ends g.W.Work.does k after.seat.id after.seat.me.0 (slots_items c.close_with.result.words) (slots_items c.close_with.result.slots) c.unload.result.items after.seated.0 (ap (λ w. w.hands) c.take_in_all.ensures.owner) c.close_with.ensures.values.2 in
    subst (λ w. IsLeft g.W.Work.does (place_record w p) (slice_index_or c.unload.result.items p Empty)) (c.take_in_all.ensures.owner) (it (λ q lq. c.unload.ensures.says q (omega (arith, sized.2))) p below)
