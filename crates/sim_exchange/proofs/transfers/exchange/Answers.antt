use Rattle.std.proofs.Common.{ap, flat_map, length, map, rules, sym, ◌≡◌, ◌∙◌}
use Rattle.std.proofs.lemmas.Iterator.Adapters.{YieldsList-from_vec}
use Rattle.std.proofs.lemmas.Iterator.Consumers.{YieldsList-end}
use Rattle.std.proofs.lemmas.List.{length-map, map-id}
use Rattle.sim_engine.specs.Exchange.{sorted}
use Rattle.sim_exchange.specs.Dealt.{dealt}
use Rattle.sim_exchange.specs.Layout.{owner_of}
use Rattle.sim_exchange.proofs.Dealing.{dealt_length, dealt_sorted}
use Rattle.sim_exchange.proofs.transfers.exchange.Goals as goal

pub deal-requires : goal.deal-requires
deal-requires g c =
    sym (length-map c.loop-list.lists.items (λ v. v.items)) ∙ ap length c.loop-list.invariant
    ∙ dealt_length g.S.Site.engine (owner_of c.args.layout.now) c.args.layout.now.parts (flat_map (λ v. v.items) c.loop-list.yielded)

pub returns : goal.returns
returns g c =
    let l = c.loop-list in
    let of = YieldsList-from_vec {s = c.into_iter-list-iterator.result} c.args.sent.items (search rules) (search rules) in
    let end = YieldsList-end of l.yielded l.list-iterator l.yielded_by c.next.result c.next.new.self c.in-None.is c.next.ensures.steps in
    let all : l.yielded ≡ c.args.sent.items = sym (map-id l.yielded) ∙ end.0 in
    c.in_ok-sort_each.ensures
    ∙ ap (map (sorted g.S.Site.engine)) (l.invariant ∙ ap (λ lists. dealt g.S.Site.engine (owner_of c.args.layout.now) c.args.layout.now.parts (flat_map (λ v. v.items) lists)) all)
    ∙ dealt_sorted g.S.Site.engine (owner_of c.args.layout.now) c.args.layout.now.parts (flat_map (λ l. l.items) c.args.sent.items)
