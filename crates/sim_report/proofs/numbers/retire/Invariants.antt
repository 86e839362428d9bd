use Rattle.std.proofs.Common.{◌≡◌, ◌+◌, ◌++◌, take}
use Rattle.sim_report.specs.Numbered.{marked}
use Rattle.sim_report.proofs.numbers.retire.Given as goal

abbrev pub invariant-loop-flag : goal.invariant-loop-flag
invariant-loop-flag l =
    (l.number ≡ l.first + l.flag-index) × (l.low.keys ≡ l.initial.low.keys ++ marked l.first (take l.flag-index l.flags))
