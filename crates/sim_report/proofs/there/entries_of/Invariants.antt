use Rattle.std.proofs.Common.{◌≡◌, ◌++◌, take}
use Rattle.sim_report.specs.Numbered.{placed}
use Rattle.sim_report.proofs.there.entries_of.Given as goal

abbrev pub invariant-loop-place : goal.invariant-loop-place
invariant-loop-place l = l.entries.items ≡ l.low.entries ++ placed l.first (take l.place l.slots.items)
