use Rattle.std.proofs.Common.{Bool, List, [], ℕ, ap, drop, false, filter, not, refl, sym, take, true, ◌&&◌, ◌++◌, ◌∙◌, ◌∷◌, ◌≡◌}
use Rattle.std.proofs.lemmas.List.{take-append-drop}
use Rattle.std.specs.List.{list_all}
use Rattle.sim_engine.specs.Prefixes.{is_before}
use Rattle.sim_windows.proofs.settling.part_list.Given.{Over}
use Rattle.sim_windows.proofs.settling.part_list.Goals as goal

-- of two lists behind each other a test keeps the one, and its opposite the other
record Parts {X : Type 0} (p : X → Bool) (xs ys : List X) : Type 0 where
  kept : filter p (xs ++ ys) ≡ xs
  left : filter (λ x. not (p x)) (xs ++ ys) ≡ ys

one_other : {X : Type 0} (p : X → Bool) (y : X) (ys : List X) (b : Bool) → p y ≡ b → (not b && list_all (λ x. not (p x)) ys) ≡ true → (list_all (λ x. not (p x)) ys ≡ true → Parts p [] ys) → Parts p [] (y ∷ ys)
one_other p y ys true e h rest = let n : false ≡ true = h in cc
one_other p y ys false e h rest = let w : Parts p [] ys = rest h in record { kept = rw e w.kept; left = rw e (ap (λ r. y ∷ r) w.left) }

others_only : {X : Type 0} (p : X → Bool) (ys : List X) → list_all (λ x. not (p x)) ys ≡ true → Parts p [] ys
others_only p [] h = record { kept = refl; left = refl }
others_only p (y ∷ ys) h = one_other p y ys (p y) refl h (others_only p ys)

one_before : {X : Type 0} (p : X → Bool) (x : X) (xs ys : List X) (b : Bool) → p x ≡ b → (b && list_all p xs) ≡ true → (list_all p xs ≡ true → Parts p xs ys) → Parts p (x ∷ xs) ys
one_before p x xs ys true e h rest = let w : Parts p xs ys = rest h in record { kept = rw e (ap (λ r. x ∷ r) w.kept); left = rw e w.left }
one_before p x xs ys false e h rest = let n : false ≡ true = h in cc

parts : {X : Type 0} (p : X → Bool) (xs ys : List X) → list_all p xs ≡ true → list_all (λ x. not (p x)) ys ≡ true → Parts p xs ys
parts p [] ys h k = others_only p ys k
parts p (x ∷ xs) ys h k = one_before p x xs ys (p x) refl h (λ rest. parts p xs ys rest k)

-- rows that are split at a place, where all in front pass a test and none behind does
split_at : {X : Type 0} (p : X → Bool) (rows now front back : List X) (place : ℕ) → now ≡ rows → front ≡ take place now → back ≡ drop place now
    → true ≡ list_all p front → true ≡ list_all (λ x. not (p x)) back → Parts p (take place rows) (drop place rows)
split_at p rows now front back place read first rest h k =
    parts p (take place rows) (drop place rows) (ap (list_all p) (ap (take place) (sym read) ∙ sym first) ∙ sym h)
    (ap (list_all (λ x. not (p x))) (ap (drop place) (sym read) ∙ sym rest) ∙ sym k)

-- the rows at the place that was found
split : (g : Over) (c : goal.In_ok-others g) → Parts (is_before g.S.Site.engine c.args.moment) (take c.partition_point-place.result c.args.rows.items) (drop c.partition_point-place.result c.args.rows.items)
split g c =
    split_at (is_before g.S.Site.engine c.args.moment) c.args.rows.items _ _ _ c.partition_point-place.result c.deref-2.ensures.value c.split_at.ensures.front c.split_at.ensures.back
    (sym c.if-not-are_before.false ∙ c.are_before.ensures) (sym c.if-not-none_before.false ∙ c.none_before.ensures)

pub returns-clause-before : goal.returns-clause-before
returns-clause-before g c =
    let p = is_before g.S.Site.engine c.args.moment in
    c.in_ok-others.ensures.items ∙ sym (split g c).kept ∙ ap (filter p) (take-append-drop c.partition_point-place.result c.args.rows.items)

pub returns-clause-others : goal.returns-clause-others
returns-clause-others g c =
    let p = is_before g.S.Site.engine c.args.moment in
    c.in_ok-others.ensures.tail ∙ sym (split g c).left ∙ ap (filter (λ r. not (p r))) (take-append-drop c.partition_point-place.result c.args.rows.items)
