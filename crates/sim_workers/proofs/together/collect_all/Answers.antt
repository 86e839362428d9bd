use Rattle.std.proofs.Common.{rules, ◌≡◌, ◌≢◌, ◌≤◌, ◌<◌, ◌+◌, length, arith, sym, subst, ◌∙◌, ◌∷◌}
use Rattle.std.specs.Vec.Iter.{into_iter_items}
use mathlib.Core.Logic.{dite}
use native.Mathlib.Decide.{ℕ_discrete, dec_le}
use Rattle.sim_handoff.specs.Place.{IsFree}
use Rattle.sim_handoff.specs.Seats.{owner_record}
use Rattle.sim_workers.specs.Owners.{AreResting}
use Rattle.sim_workers.proofs.Sendings.{free_still, grown, less_left, further, at_or_before, one_more, resting_still}
use Rattle.sim_workers.proofs.Sendings.{collected_still, collected_more}
use Rattle.sim_workers.proofs.together.collect_all.Goals as goal

pub come-outcome-requires-clause-resting : goal.come-outcome-requires-clause-resting
come-outcome-requires-clause-resting g c _ _ =
    let i = c.loop-home.invariant in
    let y = c.loop-home.yielded in
    let here = c.len-place.result in
    let at : length y ≡ here = search rules in
    let owner = owner_record c.loop-home.owner in
    let r = subst (λ homes. AreResting owner (length y) homes) c.in-Some.ensures.steps.0 i.resting in
    (subst (λ place. AreResting owner place (c.in-Some.home ∷ into_iter_items c.next.new.self)) at r).0

pub loop-home-preserved : goal.loop-home-preserved
loop-home-preserved g c =
    let i = c.loop-home.invariant in
    let y = c.loop-home.yielded in
    let here = c.len-place.result in
    let at : here ≡ length y = search rules in
    let at' : here ≡ 0 + length y = omega arith in
    let before = owner_record c.args.owner.now in
    let owner = owner_record c.loop-home.owner in
    let after = owner_record c.come-outcome.new.owner in
    let r = subst (λ homes. AreResting owner (length y) homes) c.in-Some.ensures.steps.0 i.resting in
    record {
      can = tt;
      ends = tt;
      here = c.come-outcome.ensures.here;
      idle = c.come-outcome.ensures.idle;
      count = grown _ c.loop-home.came.items y _ _ c.push_reserved.ensures.items i.count;
      rest = less_left y _ _ _ _ i.rest c.in-Some.ensures.steps.1;
      room = search rules;
      same = λ place low.
          let past = further y c.in-Some.home place low in
          let ne : place ≢ here = omega arith in
          let low' : length y ≤ place = omega arith in
          c.come-outcome.ensures.others place ne ∙ i.same place low';
      resting =
          subst (λ place. AreResting after place (into_iter_items c.next.new.self)) (sym (one_more y c.in-Some.home))
          (resting_still owner after (length y + 1) _
          (λ place low. let ne : place ≢ here = omega arith in c.come-outcome.ensures.others place ne) r.1);
      free = λ place low. dite (ℕ_discrete place here)
          (λ e. subst (λ p. IsFree after p) (sym e) c.come-outcome.ensures.free)
          (λ ne.
          let upto = at_or_before y c.in-Some.home place low in
          let low' : place < length y = omega arith in
          free_still owner after place (c.come-outcome.ensures.others place ne) (i.free place low'));
      collected = rw c.push_reserved.ensures.items
          (collected_more g.S.Site.engine g.S.Site.conditions g.W.Packs.packed before 0 _ _ _ _ here at' i.collected
          (collected_still g.S.Site.engine g.S.Site.conditions g.W.Packs.packed owner before here c.in-Some.home c.come-outcome.result
          (i.same here (omega arith)) c.come-outcome.ensures.collected));
    }

pub returns-clause-free : goal.returns-clause-free
returns-clause-free g c place =
    let i = c.loop-home.invariant in
    let all : length c.loop-home.yielded ≡ length c.args.homes.items = search rules in
    let before = owner_record c.args.owner.now in
    let owner = owner_record c.loop-home.owner in
    dite (dec_le (length c.args.homes.items) place)
    (λ low. free_still before owner place (i.same place (omega arith)) (c.requires.after place low))
    (λ high. i.free place (omega arith))
