use Rattle.std.proofs.Common.{◌≡◌, ◌≤◌, length, take}
use Rattle.sqs_rehearsal.specs.Options.{partitions_in}
use Rattle.sqs_rehearsal.proofs.options.partitions_in.Given as goal

abbrev pub invariant-loop-part : goal.invariant-loop-part
invariant-loop-part l = (l.needed ≡ partitions_in (take l.part-index l.map)) × (l.part-index ≤ length l.map)
