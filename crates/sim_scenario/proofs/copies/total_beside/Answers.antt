use Rattle.std.proofs.Common.{◌-◌, arith}
use Rattle.sim_scenario.proofs.Copying.{all_total, beside_fewer}
use Rattle.std.proofs.lemmas.List.Sums.{sum_by-drop_more}
use Rattle.sim_scenario.proofs.copies.total_beside.Goals as goal

pub overflow_add-total : goal.overflow_add-total
overflow_add-total c =
    let more = sum_by-drop_more (λ n. n - 1) c.args.copies.now c.loop-count.count-index 0 c.loop-count-test.true in
    omega (arith, more, c.loop-count.invariant, c.saturating_sub.ensures, beside_fewer c.args.copies.now, c.requires)

pub returns-clause-few : goal.returns-clause-few
returns-clause-few c =
    let all = all_total (λ n. n - 1) c.args.copies.now c.loop-count.count-index c.loop-count.total c.loop-count-test.false c.loop-count.invariant in
    omega (arith, all, beside_fewer c.args.copies.now)
