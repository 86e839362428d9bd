use Rattle.std.proofs.Common.{[], refl}
use Rattle.sim_report.specs.Reports.{asked_plain}
use Rattle.test_runs.proofs.tests.report.in_two_parts.Goals as goal

pub returns : goal.returns
returns c c' =
    let asked = asked_plain c'.args.names.items in
    let none = rw c'.expect-report.ensures at (c'.new.ensures) in
    let first = rw c'.expect.ensures at (c'.add.ensures asked [] none) in
    rw c'.expect-2.ensures at (c'.add-2.ensures asked c'.args.first.now first)
