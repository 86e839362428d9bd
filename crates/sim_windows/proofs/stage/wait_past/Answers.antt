use Rattle.std.specs.List.{list_all}
use Rattle.std.specs.Prelude.{Bool, List, Vec, [], false, flat_map, get_or, length, nat_le, not, suc, zero, ℕ, ◌&&◌, ◌<◌, ◌∷◌, ◌≡◌}
use Rattle.std.proofs.Common.{Global, ap, arith, rules, sym, ◌∙◌}
use Rattle.std.proofs.Math.Bool.{and-false}
use Rattle.std.proofs.lemmas.List.Folds.{list_all-append}
use Rattle.sim_engine.specs.World.{arrival}
use Rattle.sim_windows.proofs.stage.wait_past.Goals as goal

-- where the elements of one of some lists do not all pass a test, those of all the lists do not
fails : {A : Type 0} (p : A → Bool) (lists : List (Vec A Global)) (i : ℕ) (v : Vec A Global) → i < length lists → v ≡ get_or lists i v → list_all p v.items ≡ false → list_all p (flat_map (λ u. u.items) lists) ≡ false
fails p [] i v l at e = absurd (omega (arith, l))
fails p (u ∷ us) zero v l at e =
    list_all-append p u.items (flat_map (λ x. x.items) us) ∙ ap (λ b. b && list_all p (flat_map (λ x. x.items) us)) (ap (λ (x : Vec _ Global). list_all p x.items) (sym at) ∙ e)
fails p (u ∷ us) (suc i) v l at e =
    list_all-append p u.items (flat_map (λ x. x.items) us) ∙ ap (λ b. list_all p u.items && b) (fails p us i v (omega (arith, l)) at e) ∙ and-false (list_all p u.items)

pub returns-then-not-are_past : goal.returns-then-not-are_past
returns-then-not-are_past g c =
    let p : _ → Bool = λ o. not (nat_le (arrival g.S.Site.engine o) c.args.horizon) in
    let lists = c.as_lists-list-items.result.now in
    let i = c.loop-list.list-index in
    let v = c.list-item.result in
    let at : v ≡ get_or lists i v = search rules in
    let none : list_all p v.items ≡ false = ap (λ xs. list_all p xs) (sym c.deref.ensures.value) ∙ sym c.are_past.ensures ∙ c.if-not-are_past.true in
    sym (ap (list_all p) (sym c.as_lists-list-items.ensures) ∙ fails p lists i v (omega (arith, c.loop-list-test.true)) at none)
