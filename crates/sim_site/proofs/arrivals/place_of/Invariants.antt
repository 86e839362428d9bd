use Rattle.std.proofs.Common.{drop, length, ◌≤◌}
use Rattle.sim_site.specs.Arrivals.{ComesFirst}
use Rattle.sim_site.proofs.arrivals.place_of.Given as goal

-- the key comes before all from the place on
abbrev pub invariant-loop-place : goal.invariant-loop-place
invariant-loop-place l = (l.place ≤ length l.soon.items) × ComesFirst l.key (drop l.place l.soon.items)

abbrev pub decreases-loop-place : goal.decreases-loop-place
decreases-loop-place l = l.place
