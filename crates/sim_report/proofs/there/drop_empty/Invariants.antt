use Rattle.std.proofs.Common.{◌≡◌, ◌≤◌, ◌+◌, ◌^◌, length}
use Rattle.sim_report.specs.Numbered.{placed}
use Rattle.sim_report.proofs.there.drop_empty.Given as goal

abbrev pub invariant-loop-slots : goal.invariant-loop-slots
invariant-loop-slots l =
    record {
      same : placed l.first l.slots.items ≡ placed l.initial.first l.initial.slots.items;
      later : l.initial.first ≤ l.first;
      fits : l.first + length l.slots.items ≤ 2 ^ 64;
    }

abbrev pub decreases-loop-slots : goal.decreases-loop-slots
decreases-loop-slots l = length l.slots.items
