use Rattle.std.proofs.Common.{◌≡◌, ◌+◌, ◌++◌, ◌≤◌, length, map, take}
use Rattle.sqs_messages.specs.Heads.{until_delayed}
use Rattle.sqs_messages.specs.Slots.{held}
use Rattle.sqs_messages.proofs.Walked.{IsWalk}
use Rattle.sqs_messages.proofs.groups.choose.give.Given as goal

abbrev pub invariant-loop-number : goal.invariant-loop-number
invariant-loop-number l =
    record {
      walk : IsWalk l.shelf.items l.most (take l.most (l.fn.choice.numbers.items ++ map (λ m. m.number) (until_delayed (held l.shelf.items l.numbers.items)))) l.numbers.items (length l.yielded) l.choice.numbers.items;
      looked : l.choice.looked + length l.fn.choice.numbers.items ≡ l.fn.choice.looked + length l.choice.numbers.items;
      more : length l.fn.choice.numbers.items ≤ length l.choice.numbers.items;
    }
