use Rattle.std.proofs.Common.{◌≡◌, map}
use Rattle.sqs_rehearsal.proofs.printing.without_printers.Given as goal

abbrev pub invariant-loop-site : goal.invariant-loop-site
invariant-loop-site l = l.plain.items ≡ map (λ s. s.site) l.yielded
