use Rattle.std.proofs.Common.{map, ◌%◌, ◌≡◌}
use Rattle.std.specs.List.{range_with_len}
use Rattle.sqs_rehearsal.proofs.options.in_turn.Given as goal

-- those so far
abbrev pub invariant-loop-queue : goal.invariant-loop-queue
invariant-loop-queue l = l.owners.items ≡ map (λ q. q % l.parts) (range_with_len 0 l.queue)
