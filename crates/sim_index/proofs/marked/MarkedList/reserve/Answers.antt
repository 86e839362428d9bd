use Rattle.std.proofs.Common.{ap, arith, length, take, vec_capacity, vec_len, ◌∙◌}
use Rattle.sim_index.specs.Marked.{Marked}
use Rattle.sim_index.specs.Marks.{node}
use Rattle.sim_index.proofs.Leaves.{ready_by, same_taken}
use Rattle.sim_index.proofs.marked.MarkedList.reserve.Goals as goal

pub returns-clause-marks : goal.returns-clause-marks
returns-clause-marks g c =
    let n = length c.self.inside.values.items in
    ap (λ items. take (length items) c.in_ok-tree.tree) c.in_ok-reserve.ensures.items
    ∙ same_taken n c.in_ok-tree.tree c.self.inside.tree (omega (arith, c.in_ok-tree.ensures.more, ap length c.leaves.ensures, c.self.invariant.room)) c.self.invariant.room
    (λ i. c.in_ok-tree.ensures.marks i ∙ ap (λ ms. node ms i) c.leaves.ensures)
    ∙ ap (λ (m : Marked _). m.marks) c.self.view_is

pub returns-clause-ready : goal.returns-clause-ready
returns-clause-ready g c =
    ready_by (vec_len c.reserve.new.self) (vec_capacity c.reserve.new.self) (length c.in_ok-tree.tree) (omega (arith, c.in_ok-reserve.ensures.ok))
    (omega (arith, c.reserve.ensures.len, c.self.inside.values.ok.0, c.self.invariant.room, ap length c.leaves.ensures, c.in_ok-tree.ensures.more))

pub returns-then-len-width-clause-ready : goal.returns-then-len-width-clause-ready
returns-then-len-width-clause-ready g c =
    ready_by (vec_len c.reserve.new.self) (vec_capacity c.reserve.new.self) (length c.self.inside.tree) (omega (arith, c.in_ok-reserve.ensures.ok)) (omega (arith, c.if-len-width.true, c.len.ensures, ap length c.leaves-width.ensures))
