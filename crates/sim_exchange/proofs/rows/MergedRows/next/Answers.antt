use Rattle.std.proofs.Common.{ap, get_or, rules, subst, sym, ◌∙◌, ◌≡◌}
use Rattle.sim_engine.specs.Merge.{merged_all, row_cmp}
use Rattle.sim_exchange.specs.Heads.{AreHeads}
use Rattle.sim_exchange.proofs.Merging.{first_moved, head_within, heads_changed, none_moved, unmoved}
use Rattle.sim_exchange.proofs.rows.MergedRows.next.Goals as goal

pub invariant_of-self : goal.invariant_of-self
invariant_of-self g c =
    let e = g.S.Site.engine in
    let i = c.self.inside in
    let lists = i.lists.items in
    let list = c.index_mut-list.result.now in
    let at : list ≡ get_or lists c.least-place.result.place list = search rules in
    let none = c.in_err-row.ensures in
    subst (λ z. AreHeads e z i.heads)
    (sym (unmoved e lists i.heads c.self.invariant c.least-place.result c.least-place.ensures list c.pop_front.new.self at (none.0 ∙ sym none.1)))
    c.self.invariant

pub returns-in_err-row : goal.returns-in_err-row
returns-in_err-row g c =
    let e = g.S.Site.engine in
    let i = c.self.inside in
    let lists = i.lists.items in
    let list = c.index_mut-list.result.now in
    let at : list ≡ get_or lists c.least-place.result.place list = search rules in
    let left = c.in_err-row.ensures in
    let none = none_moved e lists i.heads c.self.invariant c.least-place.result c.least-place.ensures list at left.0 in
    let same = unmoved e lists i.heads c.self.invariant c.least-place.result c.least-place.ensures list c.pop_front.new.self at (left.0 ∙ sym left.1) in
    rw c.from_residual.ensures (sym c.self.view_is ∙ none, ap (merged_all (row_cmp e)) same ∙ none)

pub invariant_of-self-2 : goal.invariant_of-self-2
invariant_of-self-2 g c =
    let e = g.S.Site.engine in
    let i = c.self.inside in
    let lists = i.lists.items in
    let within = head_within e lists i.heads c.self.invariant c.least-place.result c.least-place.ensures in
    heads_changed e lists i.heads c.self.invariant c.least-place.result.place c.pop_front.new.self c.head_of.result c.put.new.self within c.head_of.ensures c.put.ensures

pub returns : goal.returns
returns g c =
    let e = g.S.Site.engine in
    let i = c.self.inside in
    let lists = i.lists.items in
    let list = c.index_mut-list.result.now in
    let at : list ≡ get_or lists c.least-place.result.place list = search rules in
    sym c.self.view_is
    ∙ first_moved e lists i.heads c.self.invariant c.least-place.result c.least-place.ensures list c.pop_front.new.self c.in_ok-row.row at c.in_ok-row.ensures
