use Rattle.std.proofs.Common.{◌≡◌, take}
use Rattle.sim_report.specs.Figured.{figures_after}
use Rattle.sim_report.proofs.figures.Figures.take_rows.Given as goal

abbrev pub invariant-loop-row : goal.invariant-loop-row
invariant-loop-row l = l.self ≡ figures_after (take l.row-index l.rows) l.initial.self
