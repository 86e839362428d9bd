use Rattle.std.proofs.Common.{ap, sym, ◌∙◌, ◌≡◌}
use Rattle.std.specs.Prelude.{Some}
use Rattle.std.proofs.lemmas.List.{get_or-map}
use Rattle.sim_clock.specs.Order.{lesser}
use Rattle.sim_engine.specs.World.{least_due}
use Rattle.sim_index.specs.Marked.{Marked}
use Rattle.sim_index.specs.Marks.{no_mark, node}
use Rattle.sim_index.specs.declared.mark.Mark.{Mark}
use Rattle.sim_index.proofs.Kept.{marked_with}
use Rattle.sim_partition.specs.Sites.{mark_of}
use Rattle.sim_partition.proofs.Numbers.{absent, found_nowhere, found_there, handed}
use Rattle.sim_partition.proofs.delivery.deliver_one.Goals as goal

pub returns-in_ok-accept-clause-delivered : goal.returns-in_ok-accept-clause-delivered
returns-in_ok-accept-clause-delivered g c =
    let e = g.S.Site.engine in
    let xs = c.args.sites.now.values in
    let there = found_there e c.to.result 0 xs c.requires.ascends c.args.numbers.now c.requires.numbers c.binary_search.result c.binary_search.ensures.position c.in-Ok.place c.in-Ok.is in
    ap (λ (s : Marked _). s.values) c.set_mark.ensures
    ∙ handed e c.args.transfer 0 c.in-Ok.place xs c.accept.new.self c.value_mut.result.now c.requires.ascends there.0 (there.1 ∙ c.to.ensures)
    (c.in_ok-accept.ensures.accepted ∙ ap (e.accepted c.args.transfer) c.value_mut.ensures.value)

pub returns-in_ok-accept-clause-marked : goal.returns-in_ok-accept-clause-marked
returns-in_ok-accept-clause-marked g c =
    let e = g.S.Site.engine in
    let list = c.args.sites.now in
    let place = c.in-Ok.place in
    let site = c.value_mut.result.now in
    let within = (found_there e c.to.result 0 list.values c.requires.ascends c.args.numbers.now c.requires.numbers c.binary_search.result c.binary_search.ensures.position place c.in-Ok.is).0 in
    let kept : node list.marks place ≡ mark_of e site =
    ap (λ ms. node ms place) c.requires.marked ∙ get_or-map (mark_of e) list.values place site no_mark within ∙ sym (ap (mark_of e) c.value_mut.ensures.value) in
    let due : c.lesser-due.result ≡ least_due e c.accept.new.self =
    c.lesser-due.ensures ∙ ap (λ k. lesser (Some k) c.mark_at.result.due) c.transfer_key-key.ensures
    ∙ ap (λ (m : Mark). lesser (Some (e.transfer_key c.args.transfer)) m.due) (c.mark_at.ensures ∙ kept)
    ∙ sym (g.met.S.Site.laws.due_accepted c.args.transfer site) ∙ sym (ap (least_due e) c.in_ok-accept.ensures.accepted) in
    marked_with (mark_of e) list c.set_mark.new.self place c.accept.new.self _ c.requires.marked (ap (λ d. let m : Mark = record { due = d; flags = 0 } in m) due) c.set_mark.ensures

pub returns-in_default-clause-delivered : goal.returns-in_default-clause-delivered
returns-in_default-clause-delivered g c =
    let e = g.S.Site.engine in
    let xs = c.args.sites.now.values in
    sym (absent e c.args.transfer xs (λ k l h. found_nowhere e c.to.result 0 xs c.requires.ascends c.args.numbers.now c.requires.numbers c.binary_search.result c.binary_search.ensures.position c.in_default.field-0 c.in_default.is k l (h ∙ sym c.to.ensures)))
