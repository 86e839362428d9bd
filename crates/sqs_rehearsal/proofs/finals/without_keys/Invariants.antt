use Rattle.std.proofs.Common.{◌≡◌, map}
use Rattle.sqs_rehearsal.proofs.finals.without_keys.Given as goal

abbrev pub invariant-loop-pair : goal.invariant-loop-pair
invariant-loop-pair l = map (λ p. p.1) l.yielded ≡ l.transfers.items
