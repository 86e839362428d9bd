use Rattle.std.proofs.Common.{All, false, length, take, true, ◌<◌, ◌≡◌, ◌≤◌}
use Rattle.sqs_laws.specs.Reach.{is_marked}
use Rattle.sqs_rehearsal.specs.Reaching.{AreMarked, KeepsNeeded, marked_count}
use Rattle.sqs_rehearsal.proofs.reach.spread.Given as goal

-- what holds of the marks so far
abbrev pub invariant-loop-way : goal.invariant-loop-way
invariant-loop-way l = record {
  many : length l.marks ≡ length l.initial.marks;
  fewer : AreMarked (is_marked l.marks) l.initial.marks;
  needed : KeepsNeeded l.ways l.initial.marks l.marks;
  upto : marked_count l.marks ≤ marked_count l.initial.marks;
  falls : l.spreads ≡ true → marked_count l.marks < marked_count l.initial.marks;
  closed : l.spreads ≡ false → All (λ e. is_marked l.marks e.from ≡ false → is_marked l.marks e.to ≡ false) (take l.way-index l.ways);
}
