use Rattle.std.proofs.Common.{◌≡◌, ℕ, ◌<◌, [], get_or, length}
use Rattle.sqs_message.specs.Beside.{hash_of_words, lane}
use Rattle.sqs_message.proofs.lanes.hashes.Given as goal

abbrev pub invariant-each : goal.invariant-each
invariant-each s = (length s.hashes ≡ 4) × ((i : ℕ) → i < s.l → get_or s.hashes i [] ≡ hash_of_words (lane i s.words))
