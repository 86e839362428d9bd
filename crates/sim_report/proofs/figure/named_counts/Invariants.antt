use Rattle.std.proofs.Common.{◌≡◌, take}
use Rattle.sim_report.specs.Figures.{named_counts}
use Rattle.sim_report.proofs.figure.named_counts.Given as goal

abbrev pub invariant-loop-place : goal.invariant-loop-place
invariant-loop-place l = l.figures.items ≡ take l.place (named_counts l.counts)
