use Rattle.std.proofs.Common.{rules, ◌≡◌, ◌∙◌}
use Rattle.sqs_model.specs.Finals.{final_message}
use Rattle.sqs_rehearsal.proofs.Left.{adding_all, adding_more, adding_none}
use Rattle.sqs_rehearsal.proofs.finals.add_messages.Goals as goal

pub loop-message-init : goal.loop-message-init
loop-message-init c =
    let q = c.args.queue.now in
    adding_none (final_message q) q.records c.args.messages.now.items c.into_iter-message-iterator.result (c.into_iter-message-iterator.ensures.into_iter_gives ∙ c.view-message-items.ensures)

pub loop-message-preserved : goal.loop-message-preserved
loop-message-preserved c =
    let q = c.args.queue.now in
    let site : q.site ≡ c.site.result = search rules in
    adding_more (final_message q) q.records c.args.messages.now.items c.loop-message.message-iterator c.next.new.self c.in-Some.message.now c.in_ok-final_message.field-0 c.loop-message.messages.items c.push.new.self.items
    c.in-Some.ensures.steps (c.in_ok-final_message.ensures q site) c.in_ok-push.ensures.items c.loop-message.invariant

pub returns : goal.returns
returns c =
    let q = c.args.queue.now in
    adding_all (final_message q) q.records c.args.messages.now.items c.loop-message.message-iterator c.loop-message.messages.items c.in-None.ensures.steps.0 c.loop-message.invariant
