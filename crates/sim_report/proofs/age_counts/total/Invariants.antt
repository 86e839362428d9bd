use Rattle.std.proofs.Common.{◌≡◌, ◌*◌, ◌^◌, ◌≤◌, length, sum, take}
use Rattle.sim_report.specs.Ages.{expanded}
use Rattle.sim_report.proofs.age_counts.total.Given as goal

abbrev pub invariant-loop-count : goal.invariant-loop-count
invariant-loop-count l = record {
  so_far : l.total ≡ sum (expanded (take l.count-index l.counts));
  fits : l.total ≤ length (expanded (take l.count-index l.counts)) * 2 ^ 64;
}
