use Rattle.std.proofs.Common.{length, ℕ, ◌<◌, ◌≡◌}
use Rattle.std.specs.Bool.{Decides}
use Rattle.sqs_laws.specs.Reach.{is_marked}
use Rattle.sqs_rehearsal.specs.Reaching.{MayStay}
use Rattle.sqs_rehearsal.proofs.alike.same_queues.Given as goal

-- each queue so far is marked if it may stay
abbrev pub invariant-loop-queue : goal.invariant-loop-queue
invariant-loop-queue l = record {
  many : length l.marks.items ≡ l.queue;
  each : (n : ℕ) → n < l.queue → Decides (is_marked l.marks.items n) (MayStay l.first l.second n);
}
