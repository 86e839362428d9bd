use Rattle.std.proofs.Common.{List, flat_map, ℕ, ◌≡◌}
use Rattle.std.specs.List.{enumerate_from}
use Rattle.sqs_formats.specs.Rows.{lines}
use Rattle.sqs_laws.specs.Reach.{is_marked}
use Rattle.sqs_laws.proofs.Reach.{changes_stay}
use Rattle.sqs_rehearsal.specs.Said.{SaysReach, said_of}
use Rattle.sqs_rehearsal.proofs.Saying.{if_ok}
use Rattle.sqs_rehearsal.proofs.said.reach_text.Goals as goal

pub returns : goal.returns
returns c =
    let s = c.args.first.now in
    let t = c.args.second.now in
    let marks = c.in_ok-marks.marks.items in
    let names = c.queue_names.ensures in
    let others = c.queue_names-2.ensures in
    let out = c.in_ok-marks.ensures in
    let says : (text : List ℕ) → text ≡ lines (flat_map (said_of c.queue_names-2.result.now c.as_slice.result.now) (enumerate_from 0 c.queue_names.result.now)) → SaysReach s t text =
    λ text is. record {
      marks = marks;
      out_of_reach = out;
      alike = λ n h. changes_stay (is_marked marks) s t names.range.sound others.range.sound (out.differ n h);
      says = rw (names.names, others.names, c.as_slice.ensures.value) at is;
    } in
    if_ok (λ v. v.items ≡ lines (flat_map (said_of c.queue_names-2.result.now c.as_slice.result.now) (enumerate_from 0 c.queue_names.result.now)))
    (λ v. SaysReach s t v.items) (λ v. says v.items) c.said_text.result c.said_text.ensures
