use Rattle.std.specs.List.{range_with_len}
use Rattle.std.specs.Prelude.{List, Ok, [], drop, length, map, suc, take, ℕ, ◌++◌, ◌+◌, ◌<◌, ◌∷◌, ◌≡◌}
use Rattle.std.proofs.Common.{ap, arith, refl, subst, sym, ◌∙◌}
use Rattle.std.proofs.lemmas.List.{length-set}
use Rattle.sim_exchange.specs.Layout.{owner_of}
use Rattle.sim_engine.specs.Parts.{part_of}
use Rattle.sim_engine.specs.Setting.{IsNumbered}
use Rattle.sim_windows.proofs.Joined.{all_taken, left_at, left_first, left_next, many_left, part_alone, taken_next, turned}
use Rattle.sim_windows.proofs.joining.join_sites.Goals as goal

nothing : {A : Type 0} (xs : List A) → length xs ≡ 0 → xs ≡ []
nothing [] e = refl
nothing (x ∷ xs) e = absurd (omega arith)

pub returns-then-len-parts : goal.returns-then-len-parts
returns-then-len-parts given c =
    let engine = given.S.Site.engine in
    λ w h e.
    let lists = c.in_ok-lists.lists in
    let layout = c.args.layout.now in
    let many : length lists.items ≡ layout.parts =
    many_left engine (λ x. x.items) lists.items (owner_of layout) layout.parts 0 w (left_first engine (λ x. x.items) lists.items (owner_of layout) layout.parts w c.args.parts.items c.in_ok-lists.ensures e) in
    absurd (omega (arith, many, lists.ok.0, c.len.ensures, c.parts-2.ensures.parts, c.if-len-parts.true))

pub loop-number-init : goal.loop-number-init
loop-number-init given c =
    let engine = given.S.Site.engine in
    let lists = c.in_ok-lists.lists in
    let layout = c.args.layout.now in
    record {
      count = omega (arith, lists.ok.0, c.len.ensures, c.parts-2.ensures.parts, c.if-len-parts.false);
      joined = λ w h e. c.in_ok-sites.ensures.items;
      left = λ w h e. left_first engine (λ x. x.items) lists.items (owner_of layout) layout.parts w c.args.parts.items c.in_ok-lists.ensures e;
    }

pub returns-in-None : goal.returns-in-None
returns-in-None given c =
    let engine = given.S.Site.engine in
    λ w h e.
    let l = c.loop-number in
    let owner = owner_of c.args.layout.now in
    let parts = c.args.layout.now.parts in
    let part = c.part_of-part.result in
    let d = c.index_mut.result.now in
    let none : length d.items ≡ 0 = omega (arith, d.ok.0, c.in-None.ensures.cases.0) in
    let at : d.items ≡ turned engine (part_of engine owner part (drop l.number w)) =
    left_at engine (λ x. x.items) l.lists.items d part owner parts l.number w c.part_of-part.ensures.below l.invariant.count c.index_mut.ensures.value (l.invariant.left w h e) in
    l.invariant.joined w h e ∙ all_taken engine owner l.number part w h c.part_of-part.ensures.owner (sym (nothing d.items none) ∙ at)

pub loop-number-preserved : goal.loop-number-preserved
loop-number-preserved given c =
    let engine = given.S.Site.engine in
    let l = c.loop-number in
    let n : ℕ = l.number in
    let owner = owner_of c.args.layout.now in
    let parts = c.args.layout.now.parts in
    let part = c.part_of-part.result in
    let d = c.index_mut.result.now in
    let site = c.in-Some.site in
    let next : suc n ≡ n + 1 = omega arith in
    let taken = λ (w : List _) (h : IsNumbered engine 0 w) (e : c.args.parts.items ≡ map (λ p. Ok (part_of engine owner p w)) (range_with_len 0 parts)).
    taken_next engine owner n part w site c.pop.new.self.items h c.part_of-part.ensures.owner
    (sym c.in-Some.ensures.items ∙ left_at engine (λ x. x.items) l.lists.items d part owner parts n w c.part_of-part.ensures.below l.invariant.count c.index_mut.ensures.value (l.invariant.left w h e)) in
    record {
      count = length-set l.lists.items part c.pop.new.self ∙ l.invariant.count;
      joined = λ w h e.
          let t = taken w h e in
          c.in_ok-push-in-Some.ensures.items ∙ ap (λ z. z ++ site ∷ []) (l.invariant.joined w h e)
          ∙ ap (λ z. take n w ++ z ∷ []) t.is
          ∙ sym t.taken ∙ ap (λ k. take k w) next;
      left = λ w h e. left_next engine (λ x. x.items) l.lists.items c.pop.new.self part owner parts n w site (taken w h e) c.part_of-part.ensures.below c.part_of-part.ensures.owner (l.invariant.left w h e);
    }

pub returns-then-parts-eq1 : goal.returns-then-parts-eq1
returns-then-parts-eq1 given c =
    let engine = given.S.Site.engine in
    let owner = owner_of c.args.layout.now in
    let one : c.args.layout.now.parts ≡ 1 = sym c.parts.ensures.parts ∙ c.if-parts-eq1.true in
    λ w h e.
    let alone : part_of engine owner 0 w ≡ w = part_alone engine owner (λ n. subst (λ k. owner n < k) one (c.parts.ensures.below n)) w in
    c.sites_alone.ensures w (e ∙ ap (λ k. map (λ p. Ok (part_of engine owner p w)) (range_with_len 0 k)) one ∙ ap (λ z. Ok z ∷ []) alone)
