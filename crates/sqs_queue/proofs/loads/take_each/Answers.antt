use Rattle.std.proofs.Common.{◌≡◌, None, Option, Some, refl, sym, ℕ, ◌∙◌}
use Rattle.sqs_message.specs.declared.message.Message.{Message}
use Rattle.sqs_model.specs.Queue.{Queue}
use Rattle.std.specs.Option.{option_or}
use Rattle.std.proofs.lemmas.Option.{same_Some}
use Rattle.sqs_model.specs.Task.{Taken, destination, take_each}
use Rattle.sqs_queue.specs.Picked.{messages_of}
use Rattle.sqs_queue.proofs.Taking.{none_some, taking_more, taking_none}
use Rattle.sqs_queue.proofs.loads.take_each.Goals.{in-Some+in-Some-or+in-Some-remove, in-Some+in-Some-or+in_default-remove, in_default}
use Rattle.sqs_queue.proofs.loads.take_each.Goals as goal

-- the task's queue, or else the message's own
or_source : (to : Option ℕ) (m : Message) → option_or to m.source ≡ destination to m
or_source None m = refl
or_source (Some queue) m = refl

pub loop-number-preserved : goal.loop-number-preserved
loop-number-preserved c =
    let first : Queue = c.args.messages.now in
    let whole : Taken = take_each first c.args.to (messages_of first.records c.args.numbers.now) in
    let i = c.loop-number.number-index in
    let q : Queue = c.loop-number.messages in
    let taken = c.loop-number.loads.items in
    elim c.match-find.branch [
      | in-Some+in-Some-or+in-Some-remove w ↦
          let m : Message = w.in-Some.message.now in
          let gone : w.in-Some-remove.message ≡ m = same_Some w.in-Some-remove.message m (w.in-Some-remove.ensures.found ∙ sym w.in-Some.ensures.found) in
          rw (w.messages-is, w.loads-is, w.push_reserved.ensures.items, w.move_of.ensures, c.site-site.ensures, gone, w.remove.ensures.rest)
          (taking_more whole first.site c.args.to c.args.numbers.now i q taken m c.loop-number-test.true (sym w.in-Some.ensures.found) c.loop-number.invariant
          w.in-Some-or.queue (sym (w.in-Some-or.ensures ∙ or_source c.args.to m)) c.requires.apart)
      | in-Some+in-Some-or+in_default-remove w ↦ none_some w.in-Some.message.now (sym w.in_default-remove.is ∙ w.remove.ensures.found ∙ sym w.in-Some.ensures.found)
      | in_default w ↦ rw (w.messages-is, w.loads-is) (taking_none whole first.site c.args.to c.args.numbers.now i q taken c.loop-number-test.true (sym w.in_default.ensures.found) c.loop-number.invariant)
    ]
