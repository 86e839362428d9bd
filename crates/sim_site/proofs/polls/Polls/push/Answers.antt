use Rattle.std.proofs.Common.{[], Some, ap, arith, length, ◌++◌, ◌∙◌, ◌∷◌, rules}
use Rattle.std.proofs.lemmas.List.{length_push}
use Rattle.sim_index.proofs.Kept.{marked_more}
use Rattle.sim_site.specs.Marked.{end_mark}
use Rattle.sim_site.proofs.Ending.{added_waiting, added_waits, few_waiting}
use Rattle.sim_site.proofs.polls.Polls.push.Goals as goal

pub overflow_add-self : goal.overflow_add-self
overflow_add-self c =
    let mid = c.make_room.new.places.values in
    omega (arith, c.self.invariant.counted, ap length c.make_room.ensures.polls, few_waiting mid, c.in_ok-push.ensures.fits, ap length c.in_ok-push.ensures.values, length_push mid (Some c.args.poll))

pub invariant_of-self-2 : goal.invariant_of-self-2
invariant_of-self-2 c =
    let xs = c.self.inside.places.values in
    let added = c.in_ok-push.ensures in
    added_waiting xs c.push.new.self c.args.poll c.self.inside.count c.self.invariant.counted (added_waits xs c.make_room.new.places.values c.push.new.self.values c.args.poll c.make_room.ensures.polls added.values)
    (marked_more end_mark c.make_room.new.places c.push.new.self (Some c.args.poll) c.mark_of.result c.make_room.ensures.marked added.values added.marks c.mark_of.ensures)

pub returns : goal.returns
returns c =
    record {
      added =
          added_waits c.self.inside.places.values c.make_room.new.places.values c.push.new.self.values c.args.poll c.make_room.ensures.polls c.in_ok-push.ensures.values
          ∙ ap (λ ps. ps ++ c.args.poll ∷ []) c.self.view_is;
      same = search rules;
    }
