use Rattle.std.proofs.Common.{List, ap, arith, length, refl, subst, sym, ◌≡◌, ◌≤◌}
use Rattle.std.proofs.lemmas.List.{get_or_read_under, length-drop}
use Rattle.sim_exchange.specs.declared.heads.Head.{Head}
use Rattle.sim_exchange.specs.Heads.{IsLeast, head_in, no_head}
use Rattle.sim_exchange.proofs.Trees.{root_least}
use Rattle.sim_exchange.proofs.heads.Heads.least.Goals as goal

pub returns : goal.returns
returns c =
    let nodes = c.self.inside.nodes.items in
    let width = c.self.inside.width in
    let some : 1 ≤ width = omega (arith, c.requires, c.self.invariant.long, length-drop width nodes, ap length c.self.view_is) in
    let first : c.index.result.now ≡ head_in nodes 1 = get_or_read_under nodes 1 (length nodes) c.index.result.now (no_head 0) c.index.ensures (omega (arith, c.self.invariant.long)) refl in
    let is : IsLeast c.args.self.now (head_in nodes 1) = subst (λ (hs : List Head). IsLeast hs (head_in nodes 1)) c.self.view_is (root_least nodes width c.self.invariant some) in
    subst (IsLeast c.args.self.now) (sym first) is
