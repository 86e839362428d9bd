use Rattle.std.proofs.Common.{List, ap, ◌∙◌}
use Rattle.std.specs.List.{list_any}
use Rattle.sim_index.specs.declared.marks.Node.{Node}
use Rattle.sim_index.specs.Marks.{bare, meets, tells}
use Rattle.sim_index.proofs.Trees.{root_tells}
use Rattle.sim_index.proofs.marks.Marks.has_on.Goals as goal

pub returns : goal.returns
returns c =
    c.reaches.ensures
    ∙ ap (λ (ns : List Node). tells (bare ns) c.args.flags 1) c.deref.ensures.value
    ∙ root_tells c.self.inside.marks.items c.self.inside.nodes.items c.self.invariant c.args.flags
    ∙ ap (list_any (meets c.args.flags)) c.self.view_is
