use Rattle.std.proofs.Common.{◌≡◌, length}
use Rattle.sqs_messages.proofs.Wanted.{IsChosen}
use Rattle.sqs_messages.proofs.hosts.choose.Given as goal

abbrev pub invariant-loop-count : goal.invariant-loop-count
invariant-loop-count l =
    record {
      chosen : IsChosen l.shelf.items l.set l.most l._count l.from l.choice.numbers.items;
      looked : l.choice.looked ≡ l._count;
      read : length l.choice.numbers.items ≡ l._count;
    }
