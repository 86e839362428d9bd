use Rattle.std.proofs.Common.{length, ◌≡◌}
use Rattle.sqs_laws.specs.Reach.{is_marked}
use Rattle.sqs_rehearsal.specs.Reaching.{AreMarked, KeepsNeeded, marked_count}
use Rattle.sqs_rehearsal.proofs.reach.spread_all.Given as goal

-- what holds of the marks so far
abbrev pub invariant-loop : goal.invariant-loop
invariant-loop l = record {
  many : length l.marks ≡ length l.initial.marks;
  fewer : AreMarked (is_marked l.marks) l.initial.marks;
  needed : KeepsNeeded l.ways l.initial.marks l.marks;
}

abbrev pub decreases-loop : goal.decreases-loop
decreases-loop l = marked_count l.marks
