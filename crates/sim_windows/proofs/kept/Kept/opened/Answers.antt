use Rattle.std.specs.List.{range_with_len}
use Rattle.std.specs.Prelude.{List, None, [], get_or, length, map, ℕ, ◌≡◌}
use Rattle.std.proofs.Common.{ap, ◌∙◌}
use Rattle.sim_engine.specs.Bounds.{bound_by}
use Rattle.sim_exchange.specs.Table.{distance_in}
use Rattle.sim_windows.specs.Stages.{bounds_by}
use Rattle.sim_windows.proofs.kept.Kept.opened.Goals as goal

pub returns : goal.returns
returns given c =
    let engine = given.S.Site.engine in
    let table = c.args.distances in
    let parts = c.args.parts.now in
    let none : ℕ → List _ = λ p. [] in
    let rows : c.in_ok-rows.rows.items ≡ map none (range_with_len 0 (length parts)) = c.in_ok-rows.ensures in
    let bounds : c.in_ok-bounds.bounds.items ≡ bounds_by engine table c.args.horizon parts =
    c.in_ok-bounds.ensures
    ∙ ap (λ dues. map (λ p. bound_by (distance_in table) c.args.horizon (λ q. get_or dues q None) p table.parts) (range_with_len 0 table.parts)) (c.deref.ensures.value ∙ c.in_ok-dues.ensures) in
    λ i. record { layout = c.args.layout; distances = table; horizon = c.args.horizon; parts = parts; bounds = bounds i; rows = rows i; waiting = c.new.ensures i; settled = 0 }
