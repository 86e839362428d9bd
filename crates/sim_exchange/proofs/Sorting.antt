-- What a stable sort leaves is the list brought into order by insertion.
use Rattle.std.specs.Cmp.{IsTotalOrder}
use Rattle.std.specs.List.Sorted.{IsSortedBy, IsSortedByKey, IsStableByKey, ties}
use Rattle.std.specs.Ordering.{is_lt, on}
use Rattle.std.specs.Prelude.{Bool, List, [], cond, false, filter, get_or, if◌then◌else◌, not, suc, true, ℕ, ◌&&◌, ◌+◌, ◌++◌, ◌∷◌, ◌≡◌}
use Rattle.std.specs.declared.cmp.Ordering.{Ordering}
use Rattle.std.proofs.Common.{ap, append_assoc, append-nil, arith, refl, subst, sym, true≢false, ◌∙◌}
use Rattle.std.proofs.lemmas.Cmp.{on_total, tied_itself}
use Rattle.sim_clock.specs.Order.{IsInOrder, inserted_by, key_cmp, key_cmp_total}
use Rattle.sim_clock.proofs.Inserted.{before_upto, ordered_inserted, upto_before}
use Rattle.sim_engine.specs.Exchange.{sorted, sorted_into}
use Rattle.sim_engine.proofs.Merge.{after_first}
use Rattle.sim_engine.specs.Members.{Each}
use Rattle.sim_engine.specs.Engine.{Engine}

both_false : (a b : Bool) → (not a && not b) ≡ true → (a ≡ false) × (b ≡ false)
both_false true b h = cc
both_false false true h = cc
both_false false false h = (refl, refl)

module _ {A : Type 0} {R : A → A → Ordering} (total : IsTotalOrder R) where
  abbrev lt : A → A → Bool
  lt x y = is_lt (R x y)

  -- those of a list that tie with an element
  abbrev tied : A → List A → List A
  tied x xs = filter (ties lt x) xs

  in_order : (xs : List A) → IsSortedBy lt xs → IsInOrder R xs
  in_order [] h = tt
  in_order (x ∷ []) h = (tt, tt)
  in_order (x ∷ (y ∷ ys)) h = (
    h 0 x (omega arith) (omega arith),
    in_order (y ∷ ys) (λ k d l m. let P : ℕ → Type 0 = λ n. lt (get_or (x ∷ (y ∷ ys)) n d) (get_or (y ∷ ys) k d) ≡ false in
        let e : suc k + 1 ≡ suc (k + 1) = omega arith in subst P e (h (suc k) d (omega arith) (omega arith))),
  )

  tied_self : (x : A) → ties lt x x ≡ true
  tied_self x = rw (tied_itself total x) refl

  -- what comes after one that ties doesn't tie
  tie_false_by : (x o y : A) (b : Bool) → lt x y ≡ b → ties lt x o ≡ true → lt o y ≡ true → (not b && not (lt y x)) ≡ false
  tie_false_by x o y true e h k = refl
  tie_false_by x o y false e h k = absurd (true≢false (sym k ∙ upto_before total y x o e (both_false (lt x o) (lt o x) h).1))

  tie_false : (x o y : A) → ties lt x o ≡ true → lt o y ≡ true → ties lt x y ≡ false
  tie_false x o y h k = tie_false_by x o y _ refl h k

  none_each : (x o z : A) (zs : List A) → ties lt x o ≡ true → lt o z ≡ true → Each (λ y. is_lt (R y z) ≡ false) zs → tied x zs ≡ []
  none_each x o z [] h k e = refl
  none_each x o z (y ∷ ys) h k e = ap (λ b. cond b (y ∷ tied x ys) (tied x ys)) (tie_false x o y h (before_upto total o z y k e.0)) ∙ none_each x o z ys h k e.1

  -- in a list in order behind one that comes before its first, none ties with that one
  none_tie : (x o z : A) (zs : List A) → ties lt x o ≡ true → lt o z ≡ true → IsInOrder R (z ∷ zs) → tied x (z ∷ zs) ≡ []
  none_tie x o z zs h k i =
      ap (λ b. cond b (z ∷ tied x zs) (tied x zs)) (tie_false x o z h k) ∙ none_each x o z zs h k (after_first total z zs i.0 i.1)

  front_by : (x o z : A) (zs : List A) (t : Bool) → ties lt x o ≡ t → lt o z ≡ true → IsInOrder R (z ∷ zs) → cond t (o ∷ tied x (z ∷ zs)) (tied x (z ∷ zs)) ≡ tied x (z ∷ zs) ++ cond t (o ∷ []) []
  front_by x o z zs true h k i = ap (λ w. o ∷ w) (none_tie x o z zs h k i) ∙ sym (ap (λ w. w ++ (o ∷ [])) (none_tie x o z zs h k i))
  front_by x o z zs false h k i = sym (append-nil (tied x (z ∷ zs)))

  -- one that is inserted comes last of those that tie with it
  tied_inserted : (x o : A) (zs : List A) → IsInOrder R zs → tied x (inserted_by R o zs) ≡ tied x zs ++ cond (ties lt x o) (o ∷ []) []
  tied_inserted x o [] i = refl
  tied_inserted x o (z ∷ zs) i =
      elim (is_lt (R o z)) as (λ b. is_lt (R o z) ≡ b → tied x (if b then o ∷ (z ∷ zs) else z ∷ inserted_by R o zs) ≡ tied x (z ∷ zs) ++ cond (ties lt x o) (o ∷ []) []) [
        | true ↦ λ e. front_by x o z zs _ refl e i
        | false ↦ λ e.
            elim (ties lt x z) as (λ b. cond b (z ∷ tied x (inserted_by R o zs)) (tied x (inserted_by R o zs)) ≡ cond b (z ∷ tied x zs) (tied x zs) ++ cond (ties lt x o) (o ∷ []) []) [
              | true ↦ ap (λ w. z ∷ w) (tied_inserted x o zs i.1)
              | false ↦ tied_inserted x o zs i.1
            ]
      ] refl

  self_first : (x : A) (xs : List A) → tied x (x ∷ xs) ≡ x ∷ tied x xs
  self_first x xs = ap (λ b. cond b (x ∷ tied x xs) (tied x xs)) (tied_self x)

  not_none : (x : A) (xs : List A) → tied x (x ∷ xs) ≡ [] → ⊥
  not_none x xs h = let e : x ∷ tied x xs ≡ [] = sym (self_first x xs) ∙ h in cc

  rest_by : (x y : A) (xs ys : List A) (a b : Bool) → x ≡ y → a ≡ b → cond a (x ∷ xs) xs ≡ cond b (y ∷ ys) ys → xs ≡ ys
  rest_by x y xs ys true true e f h = cc
  rest_by x y xs ys false false e f h = h
  rest_by x y xs ys true false e f h = cc
  rest_by x y xs ys false true e f h = cc

  -- the first of two lists in order with the same ties
  first_by : (x y : A) (xs ys : List A) (a b : Bool) → lt x y ≡ a → lt y x ≡ b → IsInOrder R (x ∷ xs) → IsInOrder R (y ∷ ys) → ((w : A) → tied w (x ∷ xs) ≡ tied w (y ∷ ys)) → x ≡ y
  first_by x y xs ys true b e f i j h = absurd (not_none x xs (h x ∙ none_tie x x y ys (tied_self x) e j))
  first_by x y xs ys false true e f i j h = absurd (not_none y ys (sym (h y) ∙ none_tie y y x xs (tied_self y) f i))
  first_by x y xs ys false false e f i j h =
      let t : tied x (y ∷ ys) ≡ y ∷ tied x ys = rw (e, f) refl in
      let g : x ∷ tied x xs ≡ y ∷ tied x ys = sym (self_first x xs) ∙ h x ∙ t in cc

  -- lists in order with the same ties are one
  same_order : (xs ys : List A) → IsInOrder R xs → IsInOrder R ys → ((w : A) → tied w xs ≡ tied w ys) → xs ≡ ys
  same_order [] [] i j h = refl
  same_order [] (y ∷ ys) i j h = absurd (not_none y ys (sym (h y)))
  same_order (x ∷ xs) [] i j h = absurd (not_none x xs (h x))
  same_order (x ∷ xs) (y ∷ ys) i j h =
      let e : x ≡ y = first_by x y xs ys _ _ refl refl i j h in
      let r : xs ≡ ys = same_order xs ys i.1 j.1 (λ w. rest_by x y (tied w xs) (tied w ys) (ties lt w x) (ties lt w y) e (ap (ties lt w) e) (h w)) in cc

module _ {Site Row Transfer : Type 0} (engine : Engine Site Row Transfer) where
  open engine use {transfer_key}

  abbrev by_key : Transfer → Transfer → Ordering
  by_key = on transfer_key key_cmp

  by_key_total : IsTotalOrder by_key
  by_key_total = on_total transfer_key key_cmp_total

  abbrev tied_transfers : Transfer → List Transfer → List Transfer
  tied_transfers x os = filter (ties (λ a b. is_lt (by_key a b)) x) os

  -- insertion keeps the order
  into_order : (done os : List Transfer) → IsInOrder by_key done → IsInOrder by_key (sorted_into engine done os)
  into_order done [] i = i
  into_order done (o ∷ os) i = into_order (inserted_by by_key o done) os (ordered_inserted by_key_total o done i)

  -- and those that tie as they were
  into_tied : (x : Transfer) (done os : List Transfer) → IsInOrder by_key done → tied_transfers x (sorted_into engine done os) ≡ tied_transfers x done ++ tied_transfers x os
  into_tied x done [] i = sym (append-nil (tied_transfers x done))
  into_tied x done (o ∷ os) i =
      into_tied x (inserted_by by_key o done) os (ordered_inserted by_key_total o done i)
      ∙ ap (λ w. w ++ tied_transfers x os) (tied_inserted by_key_total x o done i)
      ∙ elim (ties (λ a b. is_lt (by_key a b)) x o) as (λ b. (tied_transfers x done ++ cond b (o ∷ []) []) ++ tied_transfers x os ≡ tied_transfers x done ++ cond b (o ∷ tied_transfers x os) (tied_transfers x os)) [
        | true ↦ append_assoc (tied_transfers x done) (o ∷ []) (tied_transfers x os)
        | false ↦ ap (λ w. w ++ tied_transfers x os) (append-nil (tied_transfers x done))
      ]

  -- a list in the order of keys in which those of one key stand as they did
  pub sorted_is : (xs ys : List Transfer) → IsSortedByKey transfer_key key_cmp ys → IsStableByKey transfer_key key_cmp xs ys → ys ≡ sorted engine xs
  sorted_is xs ys h s =
      same_order by_key_total ys (sorted engine xs) (in_order by_key_total ys h) (into_order [] xs tt) (λ w. s w ∙ sym (into_tied w [] xs tt))
