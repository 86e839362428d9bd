use Rattle.std.proofs.Common.{◌+◌, ◌-◌, ℕ, Some, ap, arith, drop, slice_get, sym, ◌∙◌}
use Rattle.sim_report.specs.Ages.{expanded}
use Rattle.sim_report.specs.declared.age_counts.AgeCount.{AgeCount}
use Rattle.sim_report.proofs.Counted.{age-behind, age-within}
use Rattle.sim_report.proofs.age_counts.age_at.Goals as goal

pub returns-then-left-here : goal.returns-then-left-here
returns-then-left-here c =
    let none : AgeCount = record { age = 0; count = 0 } in
    let here = age-within c.args.counts.now c.loop-count.count-index c.loop-count.left none (omega arith) (omega (arith, c.from-here.ensures)) in
    ap Some c.from.ensures ∙ sym here ∙ c.loop-count.invariant

pub loop-count-preserved : goal.loop-count-preserved
loop-count-preserved c =
    let none : AgeCount = record { age = 0; count = 0 } in
    let counts = c.args.counts.now in
    let place = c.loop-count.count-index in
    let behind = age-behind counts place c.loop-count.left none (omega arith) (omega (arith, c.from-here.ensures)) in
    ap (λ (n : ℕ). slice_get (expanded (drop (place + 1) counts)) (c.loop-count.left - n)) c.from-here.ensures ∙ sym behind ∙ c.loop-count.invariant
