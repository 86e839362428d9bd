-- A stable sort of a list from behind puts each element at its place among those that followed it.
use Rattle.std.proofs.Common.{◌≡◌, suc, ◌+◌, Bool, true, false, not, cond, List, [], ◌∷◌, ◌++◌, get_or, reverse, arith, refl, sym, ap, subst, ◌∙◌, append-nil}
use Rattle.std.proofs.lemmas.List.{reverse-append}
use Rattle.std.proofs.lemmas.List.Elements.{filter-append}
use Rattle.std.specs.Cmp.{IsTotalOrder, tied_itself}
use Rattle.std.specs.List.{filter}
use Rattle.std.specs.List.Sorted.{IsSorted, IsStable, ties}
use Rattle.std.specs.Ordering.{is_lt}
use Rattle.std.specs.Prelude.{if◌then◌else◌, ◌&&◌}
use Rattle.std.specs.declared.cmp.Ordering.{Ordering}
use Rattle.sim_clock.specs.Order.{IsInOrder, inserted_by}
use Rattle.sim_clock.proofs.Inserted.{before_upto, ordered_inserted, upto_before}

module _ {A : Type 0} {R : A → A → Ordering} (total : IsTotalOrder R) where
  -- each put at its place among those that follow it
  abbrev pub in_order : List A → List A
  in_order [] = []
  in_order (x ∷ xs) = inserted_by R x (in_order xs)

  ordered : (xs : List A) → IsInOrder R (in_order xs)
  ordered [] = tt
  ordered (x ∷ xs) = ordered_inserted total x (in_order xs) (ordered xs)

  -- whether two tie
  abbrev tied : A → A → Bool
  tied = ties (λ x y. is_lt (R x y))

  -- none of a list comes before this one
  abbrev IsLow : A → List A → Type 0
  IsLow x [] = Unit {0}
  IsLow x (y ∷ ys) = (is_lt (R y x) ≡ false) × IsLow x ys

  -- this one comes before all of a list
  abbrev IsFirst : A → List A → Type 0
  IsFirst x [] = Unit {0}
  IsFirst x (y ∷ ys) = (is_lt (R x y) ≡ true) × IsFirst x ys

  low_first : (x y : A) (zs : List A) → is_lt (R y x) ≡ false → IsLow y zs → IsLow x zs
  low_first x y [] h l = tt
  low_first x y (z ∷ zs) h l = (upto_before total x y z h l.0, low_first x y zs h l.1)

  low : (x : A) (xs : List A) → IsInOrder R (x ∷ xs) → IsLow x xs
  low x [] o = tt
  low x (y ∷ ys) o = (o.0, low_first x y ys o.0 (low y ys o.1))

  self_tied : (x : A) → tied x x ≡ true
  self_tied x = rw (tied_itself total x) refl

  -- both halves of a tie
  halves : (p q : Bool) → (not p && not q) ≡ true → (p ≡ false) × (q ≡ false)
  halves true q h = cc
  halves false true h = cc
  halves false false h = (refl, refl)

  apart_by : (x a z : A) (b : Bool) → is_lt (R x z) ≡ b → is_lt (R a z) ≡ true → is_lt (R a x) ≡ false → b ≡ true
  apart_by x a z true e h k = refl
  apart_by x a z false e h k = let n : is_lt (R a z) ≡ false = upto_before total z x a e k in cc

  -- what ties with one that comes before another does not tie with that
  apart : (x a z : A) → is_lt (R a z) ≡ true → tied x a ≡ true → tied x z ≡ false
  apart x a z h t = rw (apart_by x a z (is_lt (R x z)) refl h (halves (is_lt (R x a)) (is_lt (R a x)) t).1) refl

  none_tied : (x a : A) (zs : List A) → IsFirst a zs → tied x a ≡ true → filter (tied x) zs ≡ []
  none_tied x a [] h t = refl
  none_tied x a (z ∷ zs) h t = rw (apart x a z h.0 t) (none_tied x a zs h.1 t)

  above_rest : (a z : A) (zs : List A) → is_lt (R a z) ≡ true → IsLow z zs → IsFirst a zs
  above_rest a z [] h l = tt
  above_rest a z (y ∷ ys) h l = (before_upto total a z y h l.0, above_rest a z ys h l.1)

  none_after : (x a z : A) (zs : List A) → is_lt (R a z) ≡ true → IsInOrder R (z ∷ zs) → tied x a ≡ true → filter (tied x) (z ∷ zs) ≡ []
  none_after x a z zs h o t = none_tied x a (z ∷ zs) (h, above_rest a z zs h (low z zs o)) t

  in_front : (a : A) (b : Bool) (fs : List A) → (b ≡ true → fs ≡ []) → cond b (a ∷ fs) fs ≡ fs ++ cond b (a ∷ []) []
  in_front a true fs h = rw (h refl) refl
  in_front a false fs h = sym (append-nil fs)

  filter_inserted_by :
      (x a z : A) (zs : List A) (b : Bool) → is_lt (R a z) ≡ b → IsInOrder R (z ∷ zs)
      → filter (tied x) (inserted_by R a zs) ≡ filter (tied x) zs ++ filter (tied x) (a ∷ [])
      → filter (tied x) (if b then a ∷ (z ∷ zs) else z ∷ inserted_by R a zs) ≡ filter (tied x) (z ∷ zs) ++ filter (tied x) (a ∷ [])
  filter_inserted_by x a z zs true h o t = in_front a (tied x a) (filter (tied x) (z ∷ zs)) (none_after x a z zs h o)
  filter_inserted_by x a z zs false h o t =
      rw t
      (elim (tied x z) as (λ b. cond b (z ∷ (filter (tied x) zs ++ filter (tied x) (a ∷ []))) (filter (tied x) zs ++ filter (tied x) (a ∷ [])) ≡ cond b (z ∷ filter (tied x) zs) (filter (tied x) zs) ++ filter (tied x) (a ∷ []))
      [ true ↦ refl | false ↦ refl ])

  filter_inserted : (x a : A) (zs : List A) → IsInOrder R zs → filter (tied x) (inserted_by R a zs) ≡ filter (tied x) zs ++ filter (tied x) (a ∷ [])
  filter_inserted x a [] o = refl
  filter_inserted x a (z ∷ zs) o = filter_inserted_by x a z zs (is_lt (R a z)) refl o (filter_inserted x a zs o.1)

  -- those that tie stand in the order that they have from behind
  filter_ordered : (x : A) (xs : List A) → filter (tied x) (in_order xs) ≡ filter (tied x) (reverse xs)
  filter_ordered x [] = refl
  filter_ordered x (a ∷ rest) =
      filter_inserted x a (in_order rest) (ordered rest)
      ∙ ap (λ t. t ++ filter (tied x) (a ∷ [])) (filter_ordered x rest)
      ∙ sym (filter-append (tied x) (reverse rest) (a ∷ []))
      ∙ ap (filter (tied x)) (sym (reverse-append (a ∷ []) rest))

  -- a list is not the filter of an empty one
  own : (y : A) (ys : List A) → filter (tied y) (y ∷ ys) ≡ y ∷ filter (tied y) ys
  own y ys = rw (self_tied y) refl

  not_first : (y z : A) (ys zs : List A) (b : Bool) → is_lt (R y z) ≡ b → IsInOrder R (z ∷ zs) → filter (tied y) (y ∷ ys) ≡ filter (tied y) (z ∷ zs) → b ≡ false
  not_first y z ys zs false h o f = refl
  not_first y z ys zs true h o f =
      let n : y ∷ filter (tied y) ys ≡ [] = sym (own y ys) ∙ f ∙ none_after y y z zs h o (self_tied y) in cc

  same_rest : (p : A → Bool) (y : A) (ys zs : List A) → filter p (y ∷ ys) ≡ filter p (y ∷ zs) → filter p ys ≡ filter p zs
  same_rest p y ys zs h =
      (elim (p y) as (λ b. cond b (y ∷ filter p ys) (filter p ys) ≡ cond b (y ∷ filter p zs) (filter p zs) → filter p ys ≡ filter p zs) [
        | true ↦ λ e. cc
        | false ↦ λ e. e
      ]) h

  same_first : (y z : A) (ys zs : List A) → tied y z ≡ true → filter (tied y) (y ∷ ys) ≡ filter (tied y) (z ∷ zs) → y ≡ z
  same_first y z ys zs t h =
      let there : filter (tied y) (z ∷ zs) ≡ z ∷ filter (tied y) zs = rw t refl in
      let e : y ∷ filter (tied y) ys ≡ z ∷ filter (tied y) zs = sym (own y ys) ∙ h ∙ there in cc

  both_ways : (y z : A) → is_lt (R y z) ≡ false → is_lt (R z y) ≡ false → tied y z ≡ true
  both_ways y z n m = rw (n, m) refl

  -- lists in order are one where those that tie with any are the same in both
  same : (ys zs : List A) → IsInOrder R ys → IsInOrder R zs → ((x : A) → filter (tied x) ys ≡ filter (tied x) zs) → ys ≡ zs
  same [] [] o p f = refl
  same [] (z ∷ zs) o p f = let n : [] ≡ z ∷ filter (tied z) zs = f z ∙ own z zs in cc
  same (y ∷ ys) [] o p f = let n : y ∷ filter (tied y) ys ≡ [] = sym (own y ys) ∙ f y in cc
  same (y ∷ ys) (z ∷ zs) o p f =
      let n : is_lt (R y z) ≡ false = not_first y z ys zs (is_lt (R y z)) refl p (f y) in
      let m : is_lt (R z y) ≡ false = not_first z y zs ys (is_lt (R z y)) refl o (sym (f z)) in
      let e : y ≡ z = same_first y z ys zs (both_ways y z n m) (f y) in
      let g : (x : A) → filter (tied x) ys ≡ filter (tied x) zs = λ x. same_rest (tied x) y ys zs (subst (λ (w : A). filter (tied x) (y ∷ ys) ≡ filter (tied x) (w ∷ zs)) (sym e) (f x)) in
      rw (e, same ys zs o.1 p.1 g) refl

  from_sorted : (ys : List A) → IsSorted R ys → IsInOrder R ys
  from_sorted [] s = tt
  from_sorted (y ∷ []) s = (tt, tt)
  from_sorted (y ∷ (z ∷ zs)) s =
      let next : IsSorted R (z ∷ zs) =
      λ k d l h.
      let e : suc k + 1 ≡ suc (k + 1) = omega arith in
      subst (λ n. is_lt (R (get_or (y ∷ (z ∷ zs)) n d) (get_or (z ∷ zs) k d)) ≡ false) e (s (suc k) d (omega arith) (omega (arith, h))) in
      (s 0 y (omega arith) (omega arith), from_sorted (z ∷ zs) next)

  pub stable_in_order : (xs ys : List A) → IsSorted R ys → IsStable R (reverse xs) ys → ys ≡ in_order xs
  stable_in_order xs ys s t = same ys (in_order xs) (from_sorted ys s) (ordered xs) (λ x. t x ∙ sym (filter_ordered x xs))
