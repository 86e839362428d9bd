use Rattle.std.proofs.Common.{ap, arith, length, subst, sym, take, ◌≡◌, ◌∙◌}
use Rattle.std.proofs.lemmas.List.{take_all}
use Rattle.std.specs.Fn.{FnReturnsAt}
use Rattle.std.specs.List.{AllZip}
use Rattle.sim_index.specs.Marks.{node}
use Rattle.sim_index.proofs.Leaves.{same_taken}
use Rattle.sim_index.proofs.marked.MarkedList.of.Goals as goal

pub returns-clause-marks : goal.returns-clause-marks
returns-clause-marks g c =
    let values = c.args.values.items in
    let marks = c.in_ok-marks.marks.items in
    let tree = c.in_ok-tree.tree in
    let long : length marks ≡ length values = c.in_ok-marks.ensures.length ∙ ap length c.deref.ensures.value in
    let same : take (length values) tree ≡ marks =
    same_taken (length values) tree marks (omega (arith, long, c.in_ok-tree.ensures.room, ap length c.deref-2.ensures.value)) (omega (arith, long))
    (λ i. c.in_ok-tree.ensures.marks i ∙ ap (λ ms. node ms i) c.deref-2.ensures.value)
    ∙ take_all (length values) marks (omega (arith, long)) in
    subst (AllZip (FnReturnsAt g.F.Fn c.args.mark_of) values) (sym same)
    (subst (λ xs. AllZip (FnReturnsAt g.F.Fn c.args.mark_of) xs marks) c.deref.ensures.value c.in_ok-marks.ensures.told)
