use Rattle.std.proofs.Common.{List, None, Some, ap, length, refl, subst, sym, ◌∙◌, ◌≡◌}
use Rattle.std.proofs.lemmas.List.{get_or_read_under}
use Rattle.sim_index.specs.declared.mark.Mark.{Mark}
use Rattle.sim_index.specs.declared.marks.Node.{Node}
use Rattle.sim_index.specs.Marks.{IsPlaceOfLeast, least_of, no_mark}
use Rattle.sim_index.proofs.Trees.{least_read, place_read, root_read}
use Rattle.sim_index.proofs.marks.Marks.place_of_least.Goals as goal

pub returns-in_err-index : goal.returns-in_err-index
returns-in_err-index c =
    let marks : List Mark = c.self.inside.marks.items in
    let nodes : List Node = c.self.inside.nodes.items in
    let root = root_read marks nodes c.self.invariant c.deref.result.now c.in_ok-root.root.now c.deref.ensures.value (c.in_ok-root.ensures.lookup.0, c.in_ok-root.ensures.lookup.1) in
    let none : least_of marks ≡ None =
    sym (least_read marks nodes c.self.invariant c.in_ok-root.root.now c.index.result.now root.0 root.1 (get_or_read_under marks c.in_ok-root.root.now.place (length marks) c.index.result.now no_mark c.index.ensures root.2 refl)) ∙ c.in_err-index.was in
    rw c.from_residual-in_err-index.ensures (ap least_of (sym c.self.view_is) ∙ none)

pub returns : goal.returns
returns c =
    let marks : List Mark = c.self.inside.marks.items in
    let nodes : List Node = c.self.inside.nodes.items in
    let root = root_read marks nodes c.self.invariant c.deref.result.now c.in_ok-root.root.now c.deref.ensures.value (c.in_ok-root.ensures.lookup.0, c.in_ok-root.ensures.lookup.1) in
    let some : c.index.result.now.due ≡ Some c.in_ok-index.field-0 = c.in_ok-index.was in
    subst (λ (ms : List Mark). IsPlaceOfLeast ms c.in_ok-root.root.now.place) c.self.view_is
    (place_read marks nodes c.self.invariant c.in_ok-root.root.now c.index.result.now root.0 root.1 (get_or_read_under marks c.in_ok-root.root.now.place (length marks) c.index.result.now no_mark c.index.ensures root.2 refl)
    (λ e. let f = sym some ∙ e in cc))
