use Rattle.std.proofs.Common.{◌≡◌, ◌+◌, length}
use Rattle.sqs_model.specs.Queue.{IsFramed}
use Rattle.sqs_queue.specs.Giving.{gives_all}
use Rattle.sqs_queue.proofs.Giving.{IsGiving}
use Rattle.sqs_queue.proofs.queue.Queue.give_all.Given as goal

-- those given so far, and the giving of the rest, make up the whole; with a timeout of 0 there is a slot for each of the rest
abbrev pub invariant-loop-i : goal.invariant-loop-i
invariant-loop-i l = record {
  giving : IsGiving l.now l.timeout (gives_all l.now l.timeout l.initial.batch.items l.initial.self) (length l.initial.batch.items) l.i l.self l.batch.items;
  kept : l.self.entries ≡ l.initial.self.entries;
  framed : IsFramed l.initial.self l.self;
  slots : l.timeout ≡ 0 → length l.slots.items + l.i ≡ length l.batch.items;
}
