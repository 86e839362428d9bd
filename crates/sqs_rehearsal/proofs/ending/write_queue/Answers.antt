use Rattle.std.proofs.Common.{◌∙◌, ◌++◌, Err, List, Ok, ap, map, subst}
use Rattle.sim_records.specs.Writes.{WroteSeveral}
use Rattle.sim_report.specs.Left.{lefts}
use Rattle.sqs_model.specs.Finals.{final_message}
use Rattle.sqs_model.specs.declared.finals.FinalMessage.{FinalMessage}
use Rattle.sqs_rehearsal.proofs.Messages.{writing_more, writing_stopped, writing_wants_memory, written_wants_memory}
use Rattle.sqs_rehearsal.proofs.ending.write_queue.Goals as goal
use Rattle.sqs_rehearsal.specs.Left.{message_lines}

pub loop-some-preserved : goal.loop-some-preserved
loop-some-preserved g c =
    let q = c.args.queue.now in
    let names = c.args.names.now in
    let now = g.W.Out.state c.loop-some.out in
    let new = g.W.Out.state c.write_messages.new.out in
    let u = c.in_ok-write_messages.field-0 in
    let wrote = subst (λ (ms : List FinalMessage). WroteSeveral now new (message_lines names ms) (Ok u)) c.as_slice.ensures.value c.in_ok-write_messages.ensures in
    writing_more names (map (final_message q) q.records) (g.W.Out.state c.args.out.now) c.args.left.now (map (final_message q) c.loop-some.messages) c.in_ok-some.some.items (map (final_message q) c.next_messages.new.messages)
    now new c.loop-some.left c.add.new.self u c.loop-some.invariant c.in_ok-some.ensures.next wrote
    (λ queues before is. c.in_ok-add.ensures queues before is ∙ ap (λ (ms : List FinalMessage). lefts queues (before ++ ms)) c.as_slice-in-loop-some.ensures.value)

pub returns-in_err-some-clause-written : goal.returns-in_err-some-clause-written
returns-in_err-some-clause-written g c =
    let q = c.args.queue.now in
    writing_wants_memory c.args.names.now (map (final_message q) q.records) (g.W.Out.state c.args.out.now) c.args.left.now (map (final_message q) c.loop-some.messages)
    (g.W.Out.state c.loop-some.out) c.loop-some.left c.from_residual.result c.loop-some.invariant c.from_residual.ensures.1

pub returns-in_err-write_messages-clause-written : goal.returns-in_err-write_messages-clause-written
returns-in_err-write_messages-clause-written g c =
    let q = c.args.queue.now in
    let names = c.args.names.now in
    let now = g.W.Out.state c.loop-some.out in
    let new = g.W.Out.state c.write_messages.new.out in
    let met = c.in_err-write_messages.field-0.0 in
    let stopped = subst (λ (ms : List FinalMessage). WroteSeveral now new (message_lines names ms) (Err met)) c.as_slice.ensures.value c.in_err-write_messages.ensures in
    writing_stopped names (map (final_message q) q.records) (g.W.Out.state c.args.out.now) c.args.left.now (map (final_message q) c.loop-some.messages) c.in_ok-some.some.items (map (final_message q) c.next_messages.new.messages)
    now new c.loop-some.left met c.from_residual-in_err-write_messages.result c.loop-some.invariant c.in_ok-some.ensures.next stopped c.from_residual-in_err-write_messages.ensures.1

pub returns-in_err-add-clause-written : goal.returns-in_err-add-clause-written
returns-in_err-add-clause-written g c =
    let q = c.args.queue.now in
    let names = c.args.names.now in
    let now = g.W.Out.state c.loop-some.out in
    let new = g.W.Out.state c.write_messages.new.out in
    let u = c.in_ok-write_messages.field-0 in
    let wrote = subst (λ (ms : List FinalMessage). WroteSeveral now new (message_lines names ms) (Ok u)) c.as_slice.ensures.value c.in_ok-write_messages.ensures in
    written_wants_memory names (map (final_message q) q.records) (g.W.Out.state c.args.out.now) c.args.left.now (map (final_message q) c.loop-some.messages) c.in_ok-some.some.items (map (final_message q) c.next_messages.new.messages)
    now new c.loop-some.left u c.from_residual-in_err-add.result c.loop-some.invariant c.in_ok-some.ensures.next wrote c.from_residual-in_err-add.ensures.1
