use Rattle.std.proofs.Common.{◌*◌, ◌-◌, ◌≤◌, [], length, map, take}
use Rattle.sqs_model.specs.Available.{by_group, open_from}
use Rattle.sqs_messages.specs.Heads.{told}
use Rattle.sqs_messages.proofs.Leaders.{IsChoice}
use Rattle.sqs_messages.proofs.groups.choose.choose.Given as goal

abbrev pub invariant-loop-number : goal.invariant-loop-number
invariant-loop-number l =
    record {
      chosen : IsChoice l.shelf.items l.most (map (λ m. m.number) (take l.most (by_group (open_from (told l.shelf.items) [] (told l.shelf.items))))) l.from l.choice.numbers.items;
      looked : l.choice.looked ≤ 2 * length l.choice.numbers.items;
      read : length l.choice.numbers.items ≤ l.choice.looked;
    }

abbrev pub decreases-loop-number : goal.decreases-loop-number
decreases-loop-number l = l.shelf.next - l.from
