use Rattle.std.proofs.Common.{◌≡◌, flat_map, take}
use Rattle.sqs_rehearsal.specs.Left.{keyed_at}
use Rattle.sqs_rehearsal.proofs.finals.keyed_transfers.Given as goal

abbrev pub invariant-loop-site : goal.invariant-loop-site
invariant-loop-site l = l.transfers.items ≡ flat_map keyed_at (take l.site-index l.sites)
