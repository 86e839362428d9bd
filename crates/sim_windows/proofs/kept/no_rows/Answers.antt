use Rattle.std.specs.List.{range_with_len}
use Rattle.std.specs.Prelude.{List, [], map, ℕ, ◌++◌, ◌∷◌}
use Rattle.std.proofs.Common.{ap, arith, sym, ◌∙◌}
use Rattle.std.proofs.lemmas.List.FromFn.{map-range_with_len_more}
use Rattle.sim_windows.proofs.kept.no_rows.Goals as goal

pub loop-preserved : goal.loop-preserved
loop-preserved given c =
    let none : ℕ → List _ = λ p. [] in
    c.in_ok-push.ensures.items ∙ ap (λ z. z ++ c.new.result ∷ []) c.loop.invariant
    ∙ ap (λ b. map none (range_with_len 0 c.loop.counter) ++ b ∷ []) c.new.ensures
    ∙ sym (map-range_with_len_more none 0 c.loop.counter c.loop.counter (omega arith))
