use Rattle.std.proofs.Common.{length, ◌*◌, ◌≡◌}
use Rattle.sim_exchange.specs.Layout.{owner_of}
use Rattle.sim_exchange.proofs.Tables.{AreRows}
use Rattle.sim_exchange.proofs.distances.Distances.new.Given as goal

-- the rows so far
abbrev pub invariant-loop-start : goal.invariant-loop-start
invariant-loop-start l = record {
  many : length l.cells.items ≡ l.start * l.layout.parts;
  rows : AreRows (owner_of l.layout) l.ways l.layout.parts l.start l.cells.items;
}
