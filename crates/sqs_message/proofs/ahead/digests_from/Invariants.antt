use Rattle.std.proofs.Common.{◌≡◌, ℕ, ◌<◌, ◌≤◌, ◌+◌, [], get_or, length}
use Rattle.std.specs.Fmt.{decimal}
use Rattle.md5.specs.Md5.{padded_message}
use Rattle.sqs_message.specs.Bodies.{filled}
use Rattle.sqs_message.proofs.ahead.digests_from.Given as goal

abbrev pub invariant-each : goal.invariant-each
invariant-each s =
    (length s.padded ≡ 4)
    × ((i : ℕ) → i < s.l
    → (length (filled (decimal (s.number + i)) s.text) ≤ 55)
    × (get_or s.padded i [] ≡ padded_message (filled (decimal (s.number + i)) s.text)))
