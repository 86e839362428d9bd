use Rattle.std.proofs.Common.{ap, arith, drop, length, subst, sym, take, ◌++◌, ◌∙◌, ◌≡◌}
use Rattle.std.proofs.lemmas.List.{take-append-le, take_all}
use Rattle.sqs_laws.specs.Reach.{AreOutOfReach, NoneLeadsTo, is_marked}
use Rattle.sqs_rehearsal.specs.Reaching.{AreMarked}
use Rattle.sqs_rehearsal.proofs.Reaching.{are_right, begin_within, marked_within}
use Rattle.sqs_rehearsal.proofs.reach.queues_out_of_reach.Goals as goal

pub returns : goal.returns
returns c =
    let marks = c.spread_all.new.marks in
    let old = c.in_ok-marks.marks.items in
    let before : c.deref_mut.result.now ≡ old = c.deref_mut.ensures.value in
    let same = c.in_ok-marks.ensures in
    let now : take c.in_ok-marks.marks.len (marks ++ drop (length marks) old) ≡ marks =
    take-append-le c.in_ok-marks.marks.len marks (drop (length marks) old) (omega (arith, c.spread_all.auto.marks, c.deref_mut.ensures.len)) ∙ take_all c.in_ok-marks.marks.len marks (omega (arith, c.spread_all.auto.marks, c.deref_mut.ensures.len)) in
    let ways = c.as_slice.ensures.value ∙ c.in_ok-ways.ensures in
    let fewer : AreMarked (is_marked marks) old = subst (AreMarked (is_marked marks)) before c.spread_all.ensures.fewer in
    subst (AreOutOfReach c.args.first.now c.args.second.now) (sym now)
    (are_right c.args.first.now c.args.second.now marks (begin_within c.args.first.now same.range.0.linked) (begin_within c.args.second.now same.range.1.linked) (omega (arith, c.spread_all.ensures.many, same.many, ap length before))
    (λ n h. (same.each n (marked_within old n (fewer n h))).0 (fewer n h))
    (λ among none all.
    c.spread_all.ensures.needed among (subst (NoneLeadsTo among) (sym ways) none)
    (subst (AreMarked among) (sym before) (λ n h. let one = all n h in (same.each n (omega (arith, same.many, one.0))).1 one.1)))
    (subst (NoneLeadsTo (is_marked marks)) ways c.spread_all.ensures.closed))
