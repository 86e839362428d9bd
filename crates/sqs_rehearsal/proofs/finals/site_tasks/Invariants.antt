use Rattle.std.proofs.Common.{◌≡◌, flat_map, take}
use Rattle.sqs_rehearsal.specs.Left.{tasks_at}
use Rattle.sqs_rehearsal.proofs.finals.site_tasks.Given as goal

abbrev pub invariant-loop-site : goal.invariant-loop-site
invariant-loop-site l = l.tasks.items ≡ flat_map tasks_at (take l.site-index l.sites)
