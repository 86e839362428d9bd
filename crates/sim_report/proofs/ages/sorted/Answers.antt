use Rattle.sim_report.proofs.Ascending.{Ascends-ascending, IsNonDecreasing-from, ascending_from_sort}
use Rattle.std.proofs.Common.{rules, ◌≡◌}
use Rattle.sqs_formats.specs.Report.{ascending}
use Rattle.sim_report.proofs.ages.sorted.Goals as goal

pub returns-clause-same : goal.returns-clause-same
returns-clause-same c =
    let same : c.in_ok-sorted.sorted.items ≡ c.args.ages.now = search rules in
    rw (← same) (ascending_from_sort _ _ c.sort_unstable.ensures.permutation c.sort_unstable.ensures.sorted)

pub returns-clause-ascends : goal.returns-clause-ascends
returns-clause-ascends c =
    let ages = c.args.ages.now in
    rw (returns-clause-same c) (IsNonDecreasing-from (ascending ages) (Ascends-ascending ages))
