use Rattle.std.proofs.Common.{◌≡◌, ◌++◌, map, take}
use Rattle.sqs_formats.specs.Rows.{lines}
use Rattle.sim_report.specs.Figures.{figure_fields}
use Rattle.sim_report.proofs.figure.add_figures.Given as goal

abbrev pub invariant-loop-figure : goal.invariant-loop-figure
invariant-loop-figure l = l.text ≡ l.initial.text ++ lines (map (figure_fields l.of) (take l.figure-index l.figures))
