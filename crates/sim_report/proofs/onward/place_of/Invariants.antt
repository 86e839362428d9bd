use Rattle.std.proofs.Common.{◌≡◌, ◌+◌, drop}
use Rattle.sim_report.specs.Forwards.{place_of}
use Rattle.sim_report.proofs.onward.place_of.Given as goal

abbrev pub invariant-loop-place : goal.invariant-loop-place
invariant-loop-place l = place_of l.to l.forwards ≡ place_of l.to (drop l.place l.forwards) + l.place
