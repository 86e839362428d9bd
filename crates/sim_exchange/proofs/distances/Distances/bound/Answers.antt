use Rattle.std.proofs.Common.{None, Option, ap, arith, get_or, min, subst, suc, ◌+◌, ◌∙◌, ◌<◌, ◌^◌, ◌≡◌, ℕ}
use Rattle.sim_engine.specs.Bounds.{bound_by, reached}
use Rattle.sim_exchange.specs.Table.{distance_in}
use Rattle.sim_exchange.proofs.distances.Distances.bound.Goals as goal

pub loop-from-preserved : goal.loop-from-preserved
loop-from-preserved c =
    let dues = c.args.dues.now in
    let from = c.loop-from.from in
    let due : ℕ → Option ℕ = λ q. get_or dues q None in
    let by : ℕ → ℕ = bound_by (distance_in c.args.self.now) c.args.horizon due c.args.part in
    let e : suc from ≡ from + 1 = omega arith in
    let low : c.loop-from.bound < 2 ^ 64 = omega (arith, c.loop-from.invariant.most, c.requires.horizon) in
    let step : c.min-bound.result ≡ by (suc from) =
    c.min-bound.ensures ∙ c.arrival.ensures c.loop-from.bound low
    ∙ ap (λ (d : Option ℕ). min (reached c.args.horizon (due from) d) c.loop-from.bound) c.cell.ensures
    ∙ ap (min (reached c.args.horizon (due from) (distance_in c.args.self.now from c.args.part))) c.loop-from.invariant.bound in
    record {
      bound = subst (λ (n : ℕ). c.min-bound.result ≡ by n) e step;
      most = omega (arith, c.min-bound.ensures, c.loop-from.invariant.most);
    }
