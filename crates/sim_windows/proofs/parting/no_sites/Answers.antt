use Rattle.std.specs.List.{range_with_len}
use Rattle.std.specs.Prelude.{List, [], map, ℕ, ◌++◌, ◌∷◌}
use Rattle.std.proofs.Common.{ap, arith, sym, ◌∙◌}
use Rattle.std.proofs.lemmas.List.FromFn.{map-range_with_len_more}
use Rattle.sim_windows.proofs.Places.{map_push}
use Rattle.sim_windows.proofs.parting.no_sites.Goals as goal

pub loop-preserved : goal.loop-preserved
loop-preserved given c =
    let none : ℕ → List _ = λ p. [] in
    let n = c.loop.counter in
    ap (map (λ x. x.items)) c.in_ok-push.ensures.items
    ∙ map_push (λ x. x.items) c.loop.lists.items c.in_ok-list.list
    ∙ ap (λ z. z ++ c.in_ok-list.list.items ∷ []) c.loop.invariant
    ∙ ap (λ z. map none (range_with_len 0 n) ++ z ∷ []) c.in_ok-list.ensures.items
    ∙ sym (map-range_with_len_more none 0 n n (omega arith))
