use Rattle.std.proofs.Common.{length, ◌≡◌}
use Rattle.sim_exchange.specs.Layout.{owner_of}
use Rattle.sim_exchange.specs.Line.{AreShort, AreWalked, total_of}
use Rattle.sim_exchange.proofs.line.distances_from.Given as goal

-- what holds of the distances so far
abbrev pub invariant-loop : goal.invariant-loop
invariant-loop l = record {
  many : length l.line.items ≡ l.layout.parts;
  short : AreShort l.line.items;
  walked : AreWalked (owner_of l.layout) l.ways l.start l.line.items;
}

abbrev pub decreases-loop : goal.decreases-loop
decreases-loop l = total_of l.line.items
