use Rattle.std.proofs.Common.{All, List, Bool, arith, ap, false, get_or, sym, subst, take, true, true≢false, ◌+◌, ◌∙◌, ◌≡◌, ◌<◌}
use Rattle.std.proofs.lemmas.List.{take_all}
use Rattle.std.proofs.lemmas.List.Elements.{All-more, All-same}
use Rattle.sim_engine.specs.declared.edge.Edge.{Edge}
use Rattle.sqs_laws.specs.Reach.{is_marked}
use Rattle.sqs_rehearsal.specs.Reaching.{AreMarked, marked_count}
use Rattle.sim_exchange.proofs.Walks.{all_in, in_get_or}
use Rattle.sqs_rehearsal.proofs.Spreading.{count_falls, none_needed, still_marked}
use Rattle.sqs_rehearsal.proofs.reach.spread.Goals as goal
use Rattle.sqs_rehearsal.proofs.reach.spread.Goals.{else-follow, then-follow}

pub loop-way-preserved : goal.loop-way-preserved
loop-way-preserved c =
    let inv = c.loop-way.invariant in
    let marks = c.loop-way.marks in
    let nowhere : Edge = record { from = 0; to = 0; least = 0 } in
    let way : Edge = get_or c.args.ways.now c.loop-way.way-index nowhere in
    elim c.if-follow.branch [
      | then-follow w ↦
          let went = c.follow.ensures.follows w.if-follow.true in
          let gone = went.taken in
          let falls : marked_count c.follow.new.marks < marked_count marks = subst (λ (m : List Bool). marked_count m < marked_count marks) (sym gone) (count_falls marks _ went.to) in
          record {
            many = omega (arith, c.follow.auto.marks, inv.many);
            fewer = λ n h. inv.fewer n (still_marked marks _ n (subst (λ (m : List Bool). is_marked m n ≡ true) gone h));
            needed = λ among none all.
                subst (AreMarked among) (sym gone) (none_needed among marks way (none way (in_get_or c.args.ways.now c.loop-way.way-index nowhere c.loop-way-test.true)) (inv.needed among none all) went.from);
            upto = omega (arith, inv.upto);
            falls = λ _. omega (arith, inv.upto);
            closed = λ h. absurd (true≢false (sym w.spreads-is ∙ h));
          }
      | else-follow w ↦
          let stays = c.follow.ensures.stays w.if-follow.false in
          let P : List Bool → Edge → Type 0 = λ m e. is_marked m e.from ≡ false → is_marked m e.to ≡ false in
          record {
            many = omega (arith, c.follow.auto.marks, inv.many);
            fewer = λ n h. inv.fewer n (subst (λ (m : List Bool). is_marked m n ≡ true) stays h);
            needed = λ among none all. subst (AreMarked among) (sym stays) (inv.needed among none all);
            upto = omega (arith, inv.upto, ap marked_count stays);
            falls = λ h. omega (arith, inv.falls (sym w.spreads-is ∙ h), ap marked_count stays);
            closed = λ h.
                subst (λ (m : List Bool). All (P m) (take (c.loop-way.way-index + 1) c.args.ways.now)) (sym stays)
                (All-more (P marks) c.args.ways.now c.loop-way.way-index _ c.loop-way-test.true (inv.closed (sym w.spreads-is ∙ h)) (c.follow.ensures.closed w.if-follow.false));
          }
    ]

pub returns-clause-closed : goal.returns-clause-closed
returns-clause-closed c = λ h.
    let P : Edge → Type 0 = λ e. is_marked c.loop-way.marks e.from ≡ false → is_marked c.loop-way.marks e.to ≡ false in
    all_in P c.args.ways.now
    (All-same P c.args.ways.now (take c.loop-way.way-index c.args.ways.now) (sym (take_all c.loop-way.way-index c.args.ways.now c.loop-way-test.false)) (c.loop-way.invariant.closed h))
