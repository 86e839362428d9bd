use Rattle.std.proofs.Common.{ap, length, sym, ◌∙◌}
use Rattle.sim_index.specs.Marked.{Marked}
use Rattle.sim_index.specs.Marks.{least_of}
use Rattle.sim_index.proofs.Leaves.{least_taken}
use Rattle.sim_index.proofs.marked.MarkedList.least_due.Goals as goal

pub returns : goal.returns
returns g c =
    c.least.ensures ∙ sym (least_taken (length c.self.inside.values.items) c.self.inside.tree c.self.invariant) ∙ ap (λ (m : Marked _). least_of m.marks) c.self.view_is
