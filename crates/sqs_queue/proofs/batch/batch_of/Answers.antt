use Rattle.std.proofs.Common.{◌<◌, ◌∙◌, arith, sym}
use Rattle.sqs_message.specs.declared.message.Message.{Message}
use Rattle.sqs_model.specs.Answers.{most_count}
use Rattle.sqs_model.specs.Queue.{Queue}
use Rattle.sqs_messages.specs.Stored.{IsCounted}
use Rattle.sqs_queue.proofs.Batches.{told_limit, told_more, told_none}
use Rattle.sqs_queue.proofs.batch.batch_of.Goals.{in-Some+else-message-eq-MOST_COUNT+in_ok-group+in_ok-body, in_default}
use Rattle.sqs_queue.proofs.batch.batch_of.Goals as goal

pub returns-then-message-eq-MOST_COUNT-clause-at_limit :
    goal.returns-then-message-eq-MOST_COUNT-clause-at_limit
returns-then-message-eq-MOST_COUNT-clause-at_limit c =
    let q : Queue = c.args.messages.now in
    λ same. told_limit q.records c.args.numbers.now c.loop-number.number-index c.in-Some.message.now c.loop-number-test.true (sym c.in-Some.ensures.found) c.if-message-eq-MOST_COUNT.true

pub told_of-requires-clause-below : goal.told_of-requires-clause-below
told_of-requires-clause-below c =
    let counted : IsCounted c.in-Some.message.now = c.in-Some.ensures.counted in
    omega (arith, counted.receives, c.if-message-eq-MOST_COUNT.false)

pub loop-number-preserved : goal.loop-number-preserved
loop-number-preserved c =
    let q : Queue = c.args.messages.now in
    let i = c.loop-number.number-index in
    let before = c.loop-number.invariant in
    elim c.match-find.branch [
      | in-Some+else-message-eq-MOST_COUNT+in_ok-group+in_ok-body w ↦
          let m : Message = w.in-Some.message.now in
          let counted : IsCounted m = w.in-Some.ensures.counted in
          let below : m.receives < most_count = omega (arith, counted.receives, w.if-message-eq-MOST_COUNT.false) in
          rw (w.batch-is)
          (record {
            told =
                rw (w.push_reserved.ensures.items, w.told_of.ensures, c.site-site.ensures)
                (told_more q.site q.records c.args.numbers.now i _ m c.loop-number-test.true (sym w.in-Some.ensures.found) below before.told);
            counted = omega (arith, w.push_reserved.ensures.len, before.counted);
            room = w.push_reserved.ensures.capacity ∙ before.room;
          })
      | in_default w ↦
          rw (w.batch-is)
          (record {
            told = told_none q.site q.records c.args.numbers.now i _ c.loop-number-test.true (sym w.in_default.ensures.found) before.told;
            counted = omega (arith, before.counted);
            room = before.room;
          })
    ]
