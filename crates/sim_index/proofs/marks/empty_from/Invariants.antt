use Rattle.std.proofs.Common.{ℕ, ◌≡◌, ◌-◌, ◌<◌, ◌≤◌, length, take}
use Rattle.sim_index.specs.Marks.{no_mark, node}
use Rattle.sim_index.proofs.marks.empty_from.Given as goal

abbrev pub invariant-loop-place : goal.invariant-loop-place
invariant-loop-place l =
    record {
      past : l.from ≤ l.place;
      within : l.place ≤ length l.marks;
      before : take l.from l.marks ≡ take l.from l.fn.marks;
      behind : (i : ℕ) → l.from ≤ i → i < l.place → node l.marks i ≡ no_mark;
    }

abbrev pub decreases-loop-place : goal.decreases-loop-place
decreases-loop-place l = length l.marks - l.place
