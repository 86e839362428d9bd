use Rattle.std.proofs.Common.{ap, arith, length, take, vec_capacity, vec_len, ◌∙◌}
use Rattle.sim_index.specs.Marked.{Marked}
use Rattle.sim_index.specs.Marks.{node}
use Rattle.sim_index.proofs.Leaves.{no_leaves, ready_by, ready_room}
use Rattle.sim_index.proofs.marked.MarkedList.clear.Goals as goal

pub invariant_of-self : goal.invariant_of-self
invariant_of-self g c =
    no_leaves (length c.self.inside.values.items) c.clear.new.self.items c.self.inside.tree c.self.invariant c.clear.ensures.items (λ i. ap (λ (m : Marked _). node m.marks i) c.self.view_is ∙ c.requires i)

pub returns-clause-marks : goal.returns-clause-marks
returns-clause-marks g c = ap (λ items. take (length items) c.self.inside.tree) c.clear.ensures.items

pub returns-clause-ready : goal.returns-clause-ready
returns-clause-ready g c ready =
    let room = ready_room (vec_len c.self.inside.values) (vec_capacity c.self.inside.values) (length c.self.inside.tree) (ap (λ (m : Marked _). m.ready) c.self.view_is ∙ ready) in
    ready_by (vec_len c.clear.new.self) (vec_capacity c.clear.new.self) (length c.self.inside.tree) (omega (arith, room.0, c.clear.ensures.len, c.clear.ensures.capacity)) (omega (arith, room.1, c.clear.ensures.len))
