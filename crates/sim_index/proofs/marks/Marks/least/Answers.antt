use Rattle.std.proofs.Common.{List, length, refl, ap, ◌∙◌}
use Rattle.std.proofs.lemmas.List.{get_or_read_under}
use Rattle.sim_index.specs.declared.mark.Mark.{Mark}
use Rattle.sim_index.specs.declared.marks.Node.{Node}
use Rattle.sim_index.specs.Marks.{least_of, no_mark}
use Rattle.sim_index.proofs.Trees.{least_read, root_read}
use Rattle.sim_index.proofs.marks.Marks.least.Goals as goal

pub returns-in-Some : goal.returns-in-Some
returns-in-Some c =
    let marks : List Mark = c.self.inside.marks.items in
    let nodes : List Node = c.self.inside.nodes.items in
    let root = root_read marks nodes c.self.invariant c.deref.result.now c.in-Some.root.now c.deref.ensures.value (c.in-Some.ensures.lookup.0, c.in-Some.ensures.lookup.1) in
    least_read marks nodes c.self.invariant c.in-Some.root.now c.index.result.now root.0 root.1 (get_or_read_under marks c.in-Some.root.now.place (length marks) c.index.result.now no_mark c.index.ensures root.2 refl)
    ∙ ap least_of c.self.view_is
