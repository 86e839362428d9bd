use Rattle.std.specs.List.{range_with_len}
use Rattle.std.specs.Prelude.{None, get_or, map}
use Rattle.std.proofs.Common.{ap, ◌∙◌}
use Rattle.sim_engine.specs.Bounds.{bound_by}
use Rattle.sim_exchange.specs.Table.{distance_in}
use Rattle.sim_windows.specs.Stages.{Standing, bounded_by, standing_of}
use Rattle.sim_windows.proofs.kept.Kept.set_bounds.Goals as goal

pub returns : goal.returns
returns given c =
    let engine = given.S.Site.engine in
    let kept = c.args.self.now in
    let table = kept.distances in
    ap (λ bounds. let x : Standing _ _ _ = bounded_by (standing_of kept c.args.parts.now) bounds in x)
    (c.in_ok-self.ensures
    ∙ ap (λ dues. map (λ p. bound_by (distance_in table) kept.horizon (λ q. get_or dues q None) p table.parts) (range_with_len 0 table.parts)) (c.deref.ensures.value ∙ c.in_ok-dues.ensures))
