use Rattle.std.proofs.Common.{ap, arith, length, subst, sym, take, vec_capacity, vec_len, [], ◌+◌, ◌++◌, ◌<◌, ◌∙◌, ◌∷◌, ◌≡◌}
use Rattle.std.proofs.lemmas.Grind.{take-set_at}
use Rattle.sim_index.specs.Marked.{HasLeaves, Marked}
use Rattle.sim_index.proofs.Leaves.{more_leaves, ready_room}
use Rattle.sim_index.proofs.marked.MarkedList.push.Goals as goal

pub put-requires : goal.put-requires
put-requires g c =
    omega (arith, c.len.ensures, (ready_room (vec_len c.self.inside.values) (vec_capacity c.self.inside.values) (length c.self.inside.tree) (ap (λ (m : Marked _). m.ready) c.self.view_is ∙ c.in_ok-reserve.ensures.ready)).1)

pub invariant_of-self : goal.invariant_of-self
invariant_of-self g c =
    let n = length c.self.inside.values.items in
    let room : vec_len c.self.inside.values < length c.self.inside.tree =
    (ready_room (vec_len c.self.inside.values) (vec_capacity c.self.inside.values) (length c.self.inside.tree) (ap (λ (m : Marked _). m.ready) c.self.view_is ∙ c.in_ok-reserve.ensures.ready)).1 in
    subst (HasLeaves (length c.push_reserved.new.self.items)) (sym c.put.ensures)
    (more_leaves n c.len.result (length c.push_reserved.new.self.items) c.self.inside.tree c.args.mark.now c.self.invariant (omega (arith, c.len.ensures, c.self.inside.values.ok.0)) (omega (arith, room, c.self.inside.values.ok.0))
    (omega (arith, c.push_reserved.ensures.len, c.self.inside.values.ok.0, c.push_reserved.new.self.ok.0)))

pub returns-clause-marks : goal.returns-clause-marks
returns-clause-marks g c =
    let leaves = c.self.inside.tree in
    let n : c.len.result ≡ length c.self.inside.values.items = omega (arith, c.len.ensures, c.self.inside.values.ok.0) in
    let more : length c.push_reserved.new.self.items ≡ c.len.result + 1 = omega (arith, c.push_reserved.ensures.len, c.len.ensures, c.push_reserved.new.self.ok.0) in
    let room : c.len.result < length leaves =
    omega (arith, c.len.ensures, (ready_room (vec_len c.self.inside.values) (vec_capacity c.self.inside.values) (length leaves) (ap (λ (m : Marked _). m.ready) c.self.view_is ∙ c.in_ok-reserve.ensures.ready)).1) in
    ap (take (length c.push_reserved.new.self.items)) c.put.ensures
    ∙ take-set_at leaves c.len.result (length c.push_reserved.new.self.items) c.args.mark.now more room
    ∙ ap (λ ms. ms ++ c.args.mark.now ∷ []) ((λ j. take (n j) leaves) ∙ ap (λ (m : Marked _). m.marks) c.self.view_is ∙ c.in_ok-reserve.ensures.marks)
