use Rattle.std.proofs.Common.{◌≡◌, drop, slice_get}
use Rattle.sim_report.specs.Ages.{expanded}
use Rattle.sim_report.proofs.age_counts.age_at.Given as goal

abbrev pub invariant-loop-count : goal.invariant-loop-count
invariant-loop-count l = slice_get (expanded (drop l.count-index l.counts)) l.left ≡ slice_get (expanded l.counts) l.place
