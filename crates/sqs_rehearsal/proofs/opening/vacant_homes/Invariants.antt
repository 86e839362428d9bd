use Rattle.std.proofs.Common.{◌≡◌, All, length}
use Rattle.sqs_rehearsal.specs.Homes.{IsVacant}
use Rattle.sqs_rehearsal.proofs.opening.vacant_homes.Given as goal

abbrev pub invariant-loop : goal.invariant-loop
invariant-loop l = record { vacant : All IsVacant l.homes.items; count : length l.homes.items ≡ l.counter }
