use Rattle.std.specs.List.{range_with_len}
use Rattle.std.specs.Prelude.{None, [], get_or, map, ℕ, ◌++◌, ◌∷◌}
use Rattle.std.proofs.Common.{ap, arith, sym, ◌∙◌}
use Rattle.std.proofs.lemmas.List.FromFn.{map-range_with_len_more}
use Rattle.sim_exchange.specs.Table.{distance_in}
use Rattle.sim_engine.specs.Bounds.{bound_by}
use Rattle.sim_windows.proofs.meeting.bounds_of.Goals as goal

pub loop-part-preserved : goal.loop-part-preserved
loop-part-preserved c =
    let d = c.args.distances.now in
    let bound : ℕ → ℕ = λ p. bound_by (distance_in d) c.args.horizon (λ q. get_or c.args.dues.now q None) p d.parts in
    let part = c.loop-part.part in
    c.in_ok-push.ensures.items
    ∙ ap (λ z. z ++ c.bound.result ∷ []) c.loop-part.invariant
    ∙ ap (λ b. map bound (range_with_len 0 part) ++ b ∷ []) c.bound.ensures
    ∙ sym (map-range_with_len_more bound 0 part part (omega arith))
