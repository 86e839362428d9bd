use Rattle.std.proofs.Common.{◌≡◌, ◌≤◌, length, vec_capacity, vec_len}
use Rattle.sqs_queue.proofs.Batches.{IsTold}
use Rattle.sqs_queue.proofs.batch.batch_of.Given as goal

-- those that were told of so far
abbrev pub invariant-loop-number : goal.invariant-loop-number
invariant-loop-number l =
    let q = l.messages in
    record {
      told : IsTold q.site q.records l.numbers l.number-index l.batch.items;
      counted : vec_len l.batch ≤ l.number-index;
      room : vec_capacity l.batch ≡ length l.numbers;
    }
