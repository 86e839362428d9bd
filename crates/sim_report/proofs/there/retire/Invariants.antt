use Rattle.std.proofs.Common.{◌≡◌, ◌<◌, ◌+◌, ◌++◌, ◌^◌, All, length}
use Rattle.std.specs.Map.{keys_of}
use Rattle.sim_report.specs.Numbered.{placed}
use Rattle.sim_report.proofs.there.retire.Given as goal

abbrev pub invariant-loop-slot : goal.invariant-loop-slot
invariant-loop-slot l =
    record {
      same : l.low.entries ++ placed l.first l.slots.items ≡ l.initial.low.entries ++ placed l.initial.first l.initial.slots.items;
      below : All (λ n. n < l.first) (keys_of l.low.entries);
      fits : l.first + length l.slots.items < 2 ^ 64;
    }

abbrev pub decreases-loop-slot : goal.decreases-loop-slot
decreases-loop-slot l = length l.slots.items
