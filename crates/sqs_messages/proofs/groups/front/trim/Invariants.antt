use Rattle.std.proofs.Common.{◌≡◌, ◌<◌, ℕ, length}
use Rattle.std.specs.Prelude.{All}
use Rattle.sqs_messages.specs.Slots.{held}
use Rattle.sqs_messages.proofs.groups.front.trim.Given as goal

abbrev pub invariant-loop-first : goal.invariant-loop-first
invariant-loop-first l =
    record {
      same : held l.shelf.items l.numbers.items ≡ held l.shelf.items l.fn.numbers.items;
      below : (n : ℕ) → All (λ k. k < n) l.fn.numbers.items → All (λ k. k < n) l.numbers.items;
    }

abbrev pub decreases-loop-first : goal.decreases-loop-first
decreases-loop-first l = length l.numbers.items
