use Rattle.std.proofs.Common.{◌≡◌, ◌*◌, length, take}
use Rattle.md5.specs.Md5.{digest_bytes}
use Rattle.sqs_message.proofs.lanes.digest.Given as goal

abbrev pub invariant-words : goal.invariant-words
invariant-words s = (length s.digest ≡ 16) × (take (4 * s.i) s.digest ≡ digest_bytes s.hash s.i)
