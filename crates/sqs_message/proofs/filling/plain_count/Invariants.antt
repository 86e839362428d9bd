use Rattle.std.proofs.Common.{◌≡◌, ◌++◌, ◌-◌, ◌≤◌, List, drop, length, take, ℕ}
use Rattle.sqs_message.specs.Bodies.{filled}
use Rattle.sqs_message.proofs.filling.plain_count.Given as goal

abbrev pub invariant-loop-count : goal.invariant-loop-count
invariant-loop-count l =
    record {
      some : 1 ≤ l.count;
      within : l.count ≤ length l.bytes;
      plain : (n : List ℕ) → filled n l.bytes ≡ take l.count l.bytes ++ filled n (drop l.count l.bytes);
    }

abbrev pub decreases-loop-count : goal.decreases-loop-count
decreases-loop-count l = length l.bytes - l.count
