use Rattle.std.proofs.Common.{◌≡◌, ◌+◌, ◌++◌, ◌∙◌, false, take, arith}
use Rattle.sim_report.specs.Numbered.{marked}
use Rattle.sim_report.proofs.Marked.{retire-clear, retire-set}
use Rattle.sim_report.proofs.numbers.retire.Goals as goal
use Rattle.sim_report.proofs.numbers.retire.Goals.{then-flag+in_ok-insert, else-flag}

pub loop-flag-preserved : goal.loop-flag-preserved
loop-flag-preserved c =
    let low = c.args.low.now.keys in
    let first = c.args.first in
    let flags = c.args.flags.now in
    let i = c.loop-flag.flag-index in
    let number = c.loop-flag.number in
    let before = c.loop-flag.low.keys in
    let kept : c.if-flag.low.keys ≡ low ++ marked first (take (i + 1) flags) = elim c.if-flag.branch as (λ b. c.if-flag.low.keys ≡ low ++ marked first (take (i + 1) flags)) [
      | then-flag+in_ok-insert w ↦ rw w.low-is
          (w.in_ok-insert.ensures.keys ∙ retire-set i number first low before flags false c.requires.below c.loop-flag.invariant.0 (omega arith) w.if-flag.true c.loop-flag.invariant.1)
      | else-flag w ↦ rw w.low-is (retire-clear i first low before flags false (omega arith) w.if-flag.false c.loop-flag.invariant.1)
    ] in
    (omega (arith, c.loop-flag.invariant.0), kept)
