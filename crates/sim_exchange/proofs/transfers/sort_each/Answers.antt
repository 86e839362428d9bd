use Rattle.std.proofs.Common.{ap, arith, length, map, ◌∙◌, drop}
use Rattle.std.proofs.lemmas.List.{length-map, take-append-le, take_all}
use Rattle.sim_engine.specs.Exchange.{sorted}
use Rattle.sim_exchange.proofs.Dealing.{all_changed, changed_element, none_changed}
use Rattle.sim_exchange.proofs.transfers.sort_each.Goals as goal

pub loop-list-init : goal.loop-list-init
loop-list-init g c = rw c.deref_mut-list-items.ensures.value (none_changed (sorted g.S.Site.engine) (map (λ v. v.items) c.args.lists.now.items))

pub loop-list-preserved : goal.loop-list-preserved
loop-list-preserved g c =
    changed_element g.S.Site.engine (λ v. v.items) (sorted g.S.Site.engine) (map (λ v. v.items) c.args.lists.now.items) c.loop-list.list-items c.loop-list.list-index c.list-item.result c.sort.new.transfers
    (omega arith) c.loop-list.invariant c.in_ok-sort.ensures

pub returns : goal.returns
returns g c =
    let lists = c.loop-list.list-items in
    ap (map (λ v. v.items)) (take-append-le c.args.lists.now.len lists (drop (length lists) c.args.lists.now.items) (omega (arith, c.deref_mut-list-items.ensures.len)) ∙ take_all c.args.lists.now.len lists (omega (arith, c.deref_mut-list-items.ensures.len)))
    ∙ all_changed (sorted g.S.Site.engine) (map (λ v. v.items) c.args.lists.now.items) (map (λ v. v.items) lists) c.loop-list.list-index
    (omega (arith, length-map lists (λ v. v.items))) c.loop-list.invariant
