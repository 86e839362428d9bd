use Rattle.std.proofs.Common.{◌≡◌, length, take}
use Rattle.std.specs.Str.{bytes_eq}
use Rattle.sqs_message.proofs.filling.Rest.begins.Given as goal

abbrev pub invariant-loop-first : goal.invariant-loop-first
invariant-loop-first l = bytes_eq l.left (take (length l.left) l.rest) ≡ bytes_eq l.part (take (length l.part) l.self)

abbrev pub decreases-loop-first : goal.decreases-loop-first
decreases-loop-first l = length l.left
