use Rattle.std.proofs.Common.{◌≡◌, take}
use Rattle.sqs_rehearsal.proofs.Asking.{all_asked}
use Rattle.sqs_rehearsal.proofs.outcome.queues_asked.Given as goal

abbrev pub invariant-loop-place : goal.invariant-loop-place
invariant-loop-place l = l.queues.items ≡ take l.place (all_asked l.names l.settings)
