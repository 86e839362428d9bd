use Rattle.std.proofs.Common.{◌≡◌, ◌+◌, ◌-◌, ◌∙◌, ℕ, suc, ap, sym, arith}
use Rattle.sim_report.specs.Doors.{reach}
use Rattle.sim_report.proofs.Reaching.{reach-same}
use Rattle.sim_report.proofs.marks.reach.Goals as goal

pub returns-then-are_closed : goal.returns-then-are_closed
returns-then-are_closed c =
    let fixed = c.are_closed.ensures c.if-are_closed.true in
    sym (reach-same (c.args.steps - c.loop.counter) c.args.ways.now c.loop.marks fixed) ∙ c.loop.invariant

pub loop-preserved : goal.loop-preserved
loop-preserved c =
    let ways = c.args.ways.now in
    let left : c.args.steps - c.loop.counter ≡ suc (c.args.steps - (c.loop.counter + 1)) = omega (arith, c.loop-test.true) in
    ap (reach (c.args.steps - (c.loop.counter + 1)) ways) c.grow.ensures
    ∙ ap (λ (n : ℕ). reach n ways c.loop.marks) (sym left) ∙ c.loop.invariant
