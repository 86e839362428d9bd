use Rattle.std.proofs.Common.{rules, ◌≡◌, ◌≢◌, ◌≤◌, ◌+◌, length, arith}
use Rattle.sim_handoff.specs.Seats.{owner_record}
use Rattle.sim_workers.proofs.Sendings.{free_still, sent_more, grown, less_left, further}
use Rattle.sim_workers.proofs.together.offer_due.Goals as goal

pub loop-part-preserved : goal.loop-part-preserved
loop-part-preserved g c =
    let i = c.loop-part.invariant in
    let y = c.loop-part.yielded in
    let here = c.len-place.result in
    let at : here ≡ length y = search rules in
    let at' : here ≡ 0 + length y = omega arith in
    let bounds = c.args.bounds.now in
    let before = owner_record c.loop-part.owner in
    let after = owner_record c.offer_one-home.new.owner in
    record {
      can = tt;
      ends = tt;
      here = c.offer_one-home.ensures.here;
      count = grown _ c.loop-part.homes.items y _ _ c.push_reserved.ensures.items i.count;
      rest = less_left y _ _ _ _ i.rest c.in-Some.ensures.steps.1;
      room = search rules;
      sent = rw c.push_reserved.ensures.items
          (sent_more g.S.Site.engine g.S.Site.conditions g.W.Packs.packed before after bounds 0 _ _ _ _ here at'
          c.offer_one-home.ensures.others i.sent c.offer_one-home.ensures.sent);
      after = λ place low.
          let past = further y c.in-Some.part place low in
          let ne : place ≢ here = omega arith in
          let low' : length y ≤ place = omega arith in
          free_still before after place (c.offer_one-home.ensures.others place ne) (i.after place low');
    }
