use Rattle.std.proofs.Common.{arith, rules}
use Rattle.std.proofs.Math.Dec.{ltb}
use Rattle.std.proofs.lemmas.List.Sorted.{IsPartitionPoint-from_clause, IsPartitionedBy-ltb}
use borrow.Author.Tests.{ltb-false, ltb-true}
use Rattle.sqs_messages.proofs.Shelves.{IsFrom, from_place, rising}
use Rattle.sqs_messages.specs.declared.slot.Slot.{Slot}
use Rattle.sqs_messages.proofs.slot.first_from.Goals as goal

parted_there : (c : goal.After-partition_point) → IsFrom c.args.slots.now c.args.number c.partition_point.result
parted_there c =
    let slots = c.args.slots.now in
    let parted = IsPartitionedBy-ltb (λ (s : Slot). s.number) slots c.args.number (rising slots c.requires) in
    let point = IsPartitionPoint-from_clause (λ (s : Slot). ltb s.number c.args.number) _ _ c.partition_point.ensures.partitioned parted (λ a r q k. search rules) in
    record {
      bound = c.partition_point.ensures.bound;
      below = λ k d l. ltb-true _ _ (point.0 k d (omega (arith, l, c.partition_point.ensures.bound)) l);
      above = λ k d l m. ltb-false _ _ (point.1 k d l m);
    }

pub returns-in-Some-clause-below : goal.returns-in-Some-clause-below
returns-in-Some-clause-below c = (from_place c.args.slots.now c.args.number c.in-Some.place c.requires c.in-Some.ensures.within c.in-Some.ensures.number).below

pub returns-in-Some-clause-from : goal.returns-in-Some-clause-from
returns-in-Some-clause-from c = (from_place c.args.slots.now c.args.number c.in-Some.place c.requires c.in-Some.ensures.within c.in-Some.ensures.number).above

pub returns-clause-below : goal.returns-clause-below
returns-clause-below c = (parted_there c).below

pub returns-clause-from : goal.returns-clause-from
returns-clause-from c = (parted_there c).above
