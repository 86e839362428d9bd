use Rattle.std.proofs.Common.{◌≡◌, flat_map, take}
use Rattle.sqs_model.specs.Finals.{messages_at}
use Rattle.sqs_rehearsal.proofs.finals.messages_of.Given as goal

abbrev pub invariant-loop-site : goal.invariant-loop-site
invariant-loop-site l = l.messages.items ≡ flat_map messages_at (take l.site-index l.sites)
