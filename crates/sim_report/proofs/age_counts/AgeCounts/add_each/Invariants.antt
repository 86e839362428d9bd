use Rattle.std.proofs.Common.{◌≡◌, ◌++◌, take}
use Rattle.sim_report.proofs.age_counts.AgeCounts.add_each.Given as goal

abbrev pub invariant-loop-age : goal.invariant-loop-age
invariant-loop-age l = l.self ≡ l.initial.self ++ take l.age-index l.ages
