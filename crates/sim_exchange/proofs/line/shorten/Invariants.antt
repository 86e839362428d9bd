use Rattle.std.proofs.Common.{All, false, take, true, ◌<◌, ◌≡◌, ◌≤◌}
use Rattle.sim_exchange.specs.Layout.{owner_of}
use Rattle.sim_exchange.specs.Line.{AreShort, AreWalked, IsSettled, total_of}
use Rattle.sim_exchange.proofs.line.shorten.Given as goal

-- what holds of the distances so far
abbrev pub invariant-loop-way : goal.invariant-loop-way
invariant-loop-way l = record {
  short : AreShort l.line;
  walked : AreWalked (owner_of l.layout) l.ways l.start l.line;
  upto : total_of l.line ≤ total_of l.initial.line;
  nearer : l.is_shorter ≡ true → total_of l.line < total_of l.initial.line;
  settled : l.is_shorter ≡ false → All (IsSettled (owner_of l.layout) l.start l.line) (take l.way-index l.ways);
}
