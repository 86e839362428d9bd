use Rattle.std.proofs.Common.{Bool, List, ap, arith, length, rules, subst, sym, true, ℕ, ◌*◌, ◌+◌, ◌-◌, ◌∙◌, ◌≡◌}
use Rattle.std.specs.List.{list_any}
use Rattle.sim_index.specs.declared.mark.Mark.{Mark}
use Rattle.sim_index.specs.declared.marks.Node.{Node}
use Rattle.sim_index.specs.Marks.{ArePairs, IsNextIn, IsTree, NoneIn, bare, meets, tells}
use Rattle.sim_index.proofs.Told.{none_any}
use Rattle.sim_index.proofs.Trees.{next_of_places, none_of_places, pairs_bare, root_tells}
use Rattle.sim_index.proofs.marks.Marks.next.Goals as goal

-- the first node tells, where some place does
root : (marks view : List Mark) (nodes seen : List Node) (flags : ℕ) (has : Bool) → IsTree marks nodes → marks ≡ view → seen ≡ nodes → has ≡ list_any (meets flags) view → has ≡ true → tells (bare seen) flags 1 ≡ true
root marks view nodes seen flags has tree same see is told = ap (λ (ns : List Node). tells (bare ns) flags 1) see ∙ root_tells marks nodes tree flags ∙ ap (list_any (meets flags)) same ∙ sym is ∙ told

pub returns-then-not-has_on : goal.returns-then-not-has_on
returns-then-not-has_on c = none_any c.args.flags c.args.self.now c.args.from (sym c.has_on.ensures ∙ c.if-not-has_on.true)

-- what is found from a place on, at the end of the way down
found : (marks view : List Mark) (nodes seen : List Node) (flags width from n : ℕ) → IsTree marks nodes → marks ≡ view → seen ≡ nodes → width ≡ length marks → IsNextIn (bare seen) flags (width + from) (2 * width) n → IsNextIn view flags from (length view) (n - width)
found marks view nodes seen flags width from n tree same see wide is =
    let here : IsNextIn (bare nodes) flags (length marks + from) (2 * length marks) n = subst (λ (ns : List Node). IsNextIn (bare ns) flags (length marks + from) (2 * length marks) n) see (subst (λ (w : ℕ). IsNextIn (bare seen) flags (w + from) (2 * w) n) wide is) in
    subst (λ (ms : List Mark). IsNextIn ms flags from (length ms) (n - width)) same (subst (λ (w : ℕ). IsNextIn marks flags from (length marks) (n - w)) (sym wide) (next_of_places marks nodes tree flags from n here))

absent : (marks view : List Mark) (nodes seen : List Node) (flags width from : ℕ) → IsTree marks nodes → marks ≡ view → seen ≡ nodes → width ≡ length marks → NoneIn (bare seen) flags (width + from) (2 * width) → NoneIn view flags from (length view)
absent marks view nodes seen flags width from tree same see wide is =
    let here : NoneIn (bare nodes) flags (length marks + from) (2 * length marks) = subst (λ (ns : List Node). NoneIn (bare ns) flags (length marks + from) (2 * length marks)) see (subst (λ (w : ℕ). NoneIn (bare seen) flags (w + from) (2 * w)) wide is) in
    subst (λ (ms : List Mark). NoneIn ms flags from (length ms)) same (none_of_places marks nodes tree flags from here)

pub first_told-requires-clause-pairs : goal.first_told-requires-clause-pairs
first_told-requires-clause-pairs c = subst (λ (ns : List Node). ArePairs (bare ns)) (sym c.deref.ensures.value) (pairs_bare c.self.inside.marks.items c.self.inside.nodes.items c.self.invariant)

pub first_told-requires-clause-told : goal.first_told-requires-clause-told
first_told-requires-clause-told c =
    root c.self.inside.marks.items c.args.self.now c.self.inside.nodes.items c.deref.result.now c.args.flags c.has_on.result c.self.invariant c.self.view_is c.deref.ensures.value c.has_on.ensures c.if-not-has_on.false

pub returns-then-from-eq0 : goal.returns-then-from-eq0
returns-then-from-eq0 c =
    let width : ℕ = c.len-width.result in
    let wide : width ≡ length c.self.inside.marks.items = search rules in
    let start : width ≡ width + c.args.from = omega (arith, c.if-from-eq0.true) in
    found c.self.inside.marks.items c.args.self.now c.self.inside.nodes.items c.deref.result.now c.args.flags width c.args.from c.first_told.result c.self.invariant c.self.view_is c.deref.ensures.value wide
    (subst (λ (m : ℕ). IsNextIn (bare c.deref.result.now) c.args.flags m (2 * width) c.first_told.result) start c.first_told.ensures)

pub next_in-requires-clause-pairs : goal.next_in-requires-clause-pairs
next_in-requires-clause-pairs c = subst (λ (ns : List Node). ArePairs (bare ns)) (sym c.deref-2.ensures.value) (pairs_bare c.self.inside.marks.items c.self.inside.nodes.items c.self.invariant)

pub returns-in-None : goal.returns-in-None
returns-in-None c =
    let wide : c.len-width.result ≡ length c.self.inside.marks.items = search rules in
    absent c.self.inside.marks.items c.args.self.now c.self.inside.nodes.items c.deref-2.result.now c.args.flags c.len-width.result c.args.from c.self.invariant c.self.view_is c.deref-2.ensures.value wide c.in-None.ensures

pub returns-in-Some : goal.returns-in-Some
returns-in-Some c =
    let wide : c.len-width.result ≡ length c.self.inside.marks.items = search rules in
    found c.self.inside.marks.items c.args.self.now c.self.inside.nodes.items c.deref-2.result.now c.args.flags c.len-width.result c.args.from c.in-Some.node c.self.invariant c.self.view_is c.deref-2.ensures.value wide c.in-Some.ensures
