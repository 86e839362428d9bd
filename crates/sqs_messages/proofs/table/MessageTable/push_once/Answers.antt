use Rattle.sqs_messages.proofs.Kept.{added_kept, added_queue}
use Rattle.sqs_messages.proofs.table.MessageTable.push_once.Goals as goal

pub invariant_of-self-2 : goal.invariant_of-self-2
invariant_of-self-2 c =
    added_kept c.self.inside _ _ _ _ _ _ _ _ c.self.view_is c.room_for.ensures.items c.room_for.ensures.next c.add.ensures.added c.add.ensures.next _ c.self.invariant c.requires.counted c.requires.below c.due_of-due.ensures
    (c.add.ensures.kind _ (c.room_for.ensures.kind _ c.self.invariant.order_of)) c.add.ensures.ordered

pub returns-clause-added : goal.returns-clause-added
returns-clause-added c = added_queue c.self.inside _ _ _ _ _ _ _ _ c.self.view_is c.room_for.ensures.items c.room_for.ensures.next c.add.ensures.added c.add.ensures.next
