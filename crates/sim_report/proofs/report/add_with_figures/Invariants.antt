use Rattle.std.proofs.Common.{◌≡◌, take}
use Rattle.sim_report.specs.Figured.{figures_after}
use Rattle.sim_report.specs.Running.{rows_added}
use Rattle.sim_report.proofs.report.add_with_figures.Given as goal

abbrev pub invariant-loop-row : goal.invariant-loop-row
invariant-loop-row l =
    (l.queues ≡ rows_added l.initial.queues (take l.row-index l.rows)) × (l.figures ≡ figures_after (take l.row-index l.rows) l.initial.figures)
