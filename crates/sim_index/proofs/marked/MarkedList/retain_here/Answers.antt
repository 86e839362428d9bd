use Rattle.std.proofs.Common.{ap, arith, length, refl, sym, take, vec_capacity, vec_len, ◌<◌, ◌≤◌, ◌≡◌, ◌∙◌}
use Rattle.std.proofs.lemmas.List.{length-take-le}
use Rattle.std.specs.List.{items_where_true}
use Rattle.sim_index.specs.Marked.{Marked}
use Rattle.sim_index.proofs.Leaves.{ready_by}
use Rattle.sim_index.proofs.Picked.{AreKept, are_kept, picked_count}
use Rattle.sim_index.proofs.marked.MarkedList.retain_here.Given as given
use Rattle.sim_index.proofs.marked.MarkedList.retain_here.Goals as goal

kept : (g : given.Over) (c : goal.After-pick-2 g) → AreKept c.args.told.now c.self.inside.values.items c.self.inside.tree c.pick.new.values.items c.pick-2.new.self
kept g c =
    let told = c.args.told.now in
    let leaves = c.self.inside.tree in
    let long = c.requires ∙ ap (λ (m : Marked _). length m.values) (sym c.self.view_is) in
    let taken : length (take (length told) leaves) ≡ length told = length-take-le (length told) leaves (omega (arith, long, c.self.invariant.room)) in
    let more : length (items_where_true told (take (length told) leaves)) < length c.pick-2.new.self =
    omega (arith, picked_count told (take (length told) leaves) (sym taken), c.count.ensures, c.if-width-count.false, c.if-width-lt-LEAST_PLACES.false, c.pick-2.ensures.length, ap length c.leaves-width.ensures) in
    are_kept told told c.self.inside.values.items c.pick.new.values.items leaves leaves c.pick-2.new.self c.self.invariant.room long refl refl
    (c.pick.ensures.items ∙ ap (items_where_true told) c.reserve.ensures.items) more c.pick-2.ensures.marks

pub invariant_of-self-2 : goal.invariant_of-self-2
invariant_of-self-2 g c = (kept g c).fits

pub returns-clause-picked : goal.returns-clause-picked
returns-clause-picked g c done =
    record {
      values = (kept g c).values ∙ ap (λ (m : Marked _). items_where_true c.args.told.now m.values) c.self.view_is;
      marks = (kept g c).marks ∙ ap (λ (m : Marked _). items_where_true c.args.told.now m.marks) c.self.view_is;
    }

pub returns-clause-ready : goal.returns-clause-ready
returns-clause-ready g c done =
    let few : vec_len c.pick.new.values < length c.pick-2.new.self = omega (arith, (kept g c).more, c.pick.new.values.ok.0) in
    let room : length c.pick-2.new.self ≤ vec_capacity c.pick.new.values =
    omega (arith, c.pick.ensures.capacity, c.reserve.ensures.len, c.in_ok-reserve.ensures.ok, ap length c.leaves-width.ensures, c.len.ensures, c.pick-2.ensures.length, c.self.invariant.room) in
    ready_by (vec_len c.pick.new.values) (vec_capacity c.pick.new.values) (length c.pick-2.new.self) (omega (arith, few, room)) few
