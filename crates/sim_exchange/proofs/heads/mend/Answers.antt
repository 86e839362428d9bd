use Rattle.std.proofs.Common.{List, ap, arith, length, refl, subst, sym, ◌*◌, ◌+◌, ◌∙◌, ◌≡◌}
use Rattle.std.proofs.lemmas.List.{drop-set-lt, get_or_read_under, length-set}
use Rattle.sim_exchange.specs.declared.heads.Head.{Head}
use Rattle.sim_exchange.specs.Heads.{head_in, lesser, no_head}
use Rattle.sim_exchange.proofs.Trees.{mended}
use Rattle.sim_exchange.proofs.heads.mend.Goals as goal

pub loop-node-preserved : goal.loop-node-preserved
loop-node-preserved c =
    let nodes = c.loop-node.nodes.items in
    let node = c.loop-node.node in
    let inv = c.loop-node.invariant in
    let below = c.lesser_below.result in
    let least : head_in nodes below ≡ lesser (head_in nodes (2 * node)) (head_in nodes (2 * node + 1)) =
    subst (λ (ns : List Head). head_in ns below ≡ lesser (head_in ns (2 * node)) (head_in ns (2 * node + 1))) c.deref.ensures.value c.lesser_below.ensures.lesser in
    let head : c.index.result.now ≡ head_in nodes below =
    get_or_read_under nodes below (length nodes) c.index.result.now (no_head 0) c.index.ensures (omega (arith, c.lesser_below.ensures.within, ap length c.deref.ensures.value)) refl in
    record {
      lesser = mended nodes node c.index.result.now inv.lesser c.loop-node-test.true (omega (arith, inv.within, inv.long, inv.same, c.requires.long)) (head ∙ least);
      within = omega (arith, inv.within);
      leaves = drop-set-lt c.args.width nodes node c.index.result.now inv.within ∙ inv.leaves;
      long = inv.long;
      same = inv.same ∙ sym (length-set nodes node c.index.result.now);
    }
