use Rattle.std.proofs.Common.{ap, length, sym, ◌∙◌}
use Rattle.std.specs.List.{list_any}
use Rattle.sim_index.specs.Marked.{Marked}
use Rattle.sim_index.specs.Marks.{meets}
use Rattle.sim_index.proofs.Leaves.{any_taken}
use Rattle.sim_index.proofs.marked.MarkedList.has_on.Goals as goal

pub returns : goal.returns
returns g c =
    c.has_on.ensures
    ∙ sym (any_taken (length c.self.inside.values.items) c.self.inside.tree c.self.invariant c.args.flags)
    ∙ ap (λ (m : Marked _). list_any (meets c.args.flags) m.marks) c.self.view_is
