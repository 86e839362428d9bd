use Rattle.std.proofs.Common.{◌≡◌, Some, map, take}
use Rattle.sim_report.proofs.tally.count_columns.Given as goal

abbrev pub invariant-loop-count : goal.invariant-loop-count
invariant-loop-count l = l.columns.items ≡ map (λ n. Some n) (take l.count-index l.counts)
