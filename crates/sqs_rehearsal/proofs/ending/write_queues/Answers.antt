use Rattle.std.proofs.Common.{◌∙◌, ◌+◌, ◌++◌, ap, drop, flat_map, map}
use Rattle.sqs_model.specs.Finals.{final_message, messages_at}
use Rattle.sqs_rehearsal.proofs.Messages.{site_and_others, writing_more, writing_stopped}
use Rattle.sqs_rehearsal.proofs.ending.write_queues.Goals as goal

pub loop-site-preserved : goal.loop-site-preserved
loop-site-preserved g c =
    let sites = c.args.sites.now in
    let i = c.loop-site.site-index in
    let x = c.site-item.result in
    let q = c.queue.result.now in
    let others = flat_map messages_at (drop (i + 1) sites) in
    let own = ap (λ t. map (final_message t) t.records) c.queue.ensures ∙ ap messages_at c.site-item.is in
    let parts = ap (λ t. t ++ others) own ∙ site_and_others messages_at sites i x c.loop-site-test.true in
    writing_more c.args.names.now (flat_map messages_at sites) (g.W.Out.state c.args.out.now) c.args.left.now (flat_map messages_at (drop i sites)) (map (final_message q) q.records) others
    (g.W.Out.state c.loop-site.out) (g.W.Out.state c.write_queue.new.out) c.loop-site.left c.write_queue.new.left c.in_ok-write_queue.field-0
    c.loop-site.invariant parts c.in_ok-write_queue.ensures.written (λ queues before is. c.in_ok-write_queue.ensures.counted queues before is)

pub returns-in_err-write_queue-clause-written : goal.returns-in_err-write_queue-clause-written
returns-in_err-write_queue-clause-written g c =
    let sites = c.args.sites.now in
    let i = c.loop-site.site-index in
    let x = c.site-item.result in
    let q = c.queue.result.now in
    let others = flat_map messages_at (drop (i + 1) sites) in
    let own = ap (λ t. map (final_message t) t.records) c.queue.ensures ∙ ap messages_at c.site-item.is in
    let parts = ap (λ t. t ++ others) own ∙ site_and_others messages_at sites i x c.loop-site-test.true in
    writing_stopped c.args.names.now (flat_map messages_at sites) (g.W.Out.state c.args.out.now) c.args.left.now (flat_map messages_at (drop i sites)) (map (final_message q) q.records) others
    (g.W.Out.state c.loop-site.out) (g.W.Out.state c.write_queue.new.out) c.loop-site.left c.in_err-write_queue.field-0.0 c.from_residual.result
    c.loop-site.invariant parts c.in_err-write_queue.ensures.written c.from_residual.ensures.1
