use Rattle.std.proofs.Common.{◌≡◌, ◌++◌, drop}
use Rattle.std.specs.List.Sorted.{IsNonDecreasing}
use Rattle.sqs_formats.specs.Report.{ascending}
use Rattle.sim_report.specs.Ages.{expanded}
use Rattle.sim_report.proofs.age_counts.AgeCounts.merged.Given as goal

abbrev pub invariant-loop-count : goal.invariant-loop-count
invariant-loop-count l = record {
  ascends : IsNonDecreasing l.rest;
  so_far : l.all ++ ascending (expanded (drop l.count-index l.count-items) ++ l.rest) ≡ ascending (expanded l.count-items ++ l.more);
}
