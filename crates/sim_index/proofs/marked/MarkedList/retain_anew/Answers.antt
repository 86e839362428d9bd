use Rattle.std.proofs.Common.{ap, arith, length, refl, sym, vec_capacity, vec_len, ◌<◌, ◌≤◌, ◌∙◌}
use Rattle.std.specs.List.{items_where_true}
use Rattle.sim_index.specs.Marked.{Marked}
use Rattle.sim_index.proofs.Leaves.{ready_by}
use Rattle.sim_index.proofs.Picked.{AreKept, are_kept}
use Rattle.sim_index.proofs.marked.MarkedList.retain_anew.Given as given
use Rattle.sim_index.proofs.marked.MarkedList.retain_anew.Goals as goal

kept : (g : given.Over) (c : goal.After-drop-self-inside-2 g) → AreKept c.args.told.now c.self.inside.values.items c.self.inside.tree c.pick.new.values.items c.in_ok-tree.tree
kept g c =
    are_kept c.args.told.now c.args.told.now c.self.inside.values.items c.pick.new.values.items c.self.inside.tree c.leaves.result.now c.in_ok-tree.tree c.self.invariant.room
    (c.requires ∙ ap (λ (m : Marked _). length m.values) (sym c.self.view_is)) refl c.leaves.ensures (c.pick.ensures.items ∙ ap (items_where_true c.args.told.now) c.reserve.ensures.items) c.in_ok-tree.ensures.more c.in_ok-tree.ensures.marks

pub invariant_of-self-2 : goal.invariant_of-self-2
invariant_of-self-2 g c = (kept g c).fits

pub returns-clause-picked : goal.returns-clause-picked
returns-clause-picked g c =
    record {
      values = (kept g c).values ∙ ap (λ (m : Marked _). items_where_true c.args.told.now m.values) c.self.view_is;
      marks = (kept g c).marks ∙ ap (λ (m : Marked _). items_where_true c.args.told.now m.marks) c.self.view_is;
    }

pub returns-clause-ready : goal.returns-clause-ready
returns-clause-ready g c =
    let few : vec_len c.pick.new.values < length c.in_ok-tree.tree = omega (arith, (kept g c).more, c.pick.new.values.ok.0) in
    let room : length c.in_ok-tree.tree ≤ vec_capacity c.pick.new.values = omega (arith, c.pick.ensures.capacity, c.reserve.ensures.len, c.in_ok-reserve.ensures.ok, ap length c.leaves-2.ensures, c.len.ensures) in
    ready_by (vec_len c.pick.new.values) (vec_capacity c.pick.new.values) (length c.in_ok-tree.tree) (omega (arith, few, room)) few
