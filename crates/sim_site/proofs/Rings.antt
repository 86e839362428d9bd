-- Transfers in order in two lists, one behind the other, and where one more comes in.
use Rattle.std.specs.Prelude.{Err, IfSome, List, MatchOption, None, Ok, OnErr, OnOk, Option, Result, Some, [], drop, false, get_or, if◌then◌else◌, length, map, suc, true, zero, ℕ, ◌++◌, ◌-◌, ◌<◌, ◌∷◌, ◌≡◌, ◌≤◌}
use Rattle.std.specs.List.{insert}
use Rattle.std.specs.declared.cmp.Ordering.{Ordering}
use Rattle.std.specs.Cmp.{IsTotalOrder}
use Rattle.std.specs.Ordering.{is_lt, on}
use Rattle.std.proofs.Common.{ap, append_assoc, arith, refl, subst, sym, ◌∙◌}
use Rattle.std.proofs.lemmas.Cmp.{on_total}
use Rattle.sim_clock.specs.declared.key.Key.{Key}
use Rattle.sim_clock.specs.Order.{IsBefore, IsInOrder, inserted_by, key_cmp, key_cmp_total, least}
use Rattle.sim_clock.proofs.Inserted.{ordered_inserted, upto_before}
use Rattle.sim_clock.proofs.Places.{least_in_order}
use Rattle.sqs_redrive.specs.declared.transfers.Outbound.{Outbound}
use Rattle.sqs_redrive.specs.Transfers.{transfer_key}
use Rattle.sim_site.specs.Arrivals.{ComesBehind, ComesFirst}

some_same : {a b : Key} → Some a ≡ Some b → a ≡ b
some_same e = cc

abbrev pub R : Outbound → Outbound → Ordering
R = on transfer_key key_cmp

total : IsTotalOrder R
total = on_total transfer_key key_cmp_total

abbrev pub InOrder : List Outbound → Type 0
InOrder = IsInOrder R

keys_in_order : (xs : List Outbound) → InOrder xs → IsInOrder key_cmp (map transfer_key xs)
keys_in_order [] h = tt
keys_in_order (x ∷ []) h = (tt, tt)
keys_in_order (x ∷ y ∷ xs) h = (h.0, keys_in_order (y ∷ xs) h.1)

-- the key of the first is the least
pub first_is_least : (x : Outbound) (xs : List Outbound) → InOrder (x ∷ xs) → least (map transfer_key (x ∷ xs)) ≡ Some (transfer_key x)
first_is_least x xs h = least_in_order key_cmp (transfer_key x) (map transfer_key xs) (keys_in_order (x ∷ xs) h)

-- what stands in front, and what stands behind
pub front_in_order : (xs ys : List Outbound) → InOrder (xs ++ ys) → InOrder xs
front_in_order [] ys h = tt
front_in_order (x ∷ []) ys h = (tt, tt)
front_in_order (x ∷ y ∷ xs) ys h = (h.0, front_in_order (y ∷ xs) ys h.1)

pub back_in_order : (xs ys : List Outbound) → InOrder (xs ++ ys) → InOrder ys
back_in_order [] ys h = h
back_in_order (x ∷ xs) ys h = back_in_order xs ys h.1

-- none of these comes after a transfer
abbrev pub NoneAfter : Outbound → List Outbound → Type 0
NoneAfter t [] = Unit {0}
NoneAfter t (x ∷ xs) = (is_lt (R t x) ≡ false) × NoneAfter t xs

-- if the first of those behind does not come after it, none in front does
pub none_after : (t : Outbound) (xs ys : List Outbound) → InOrder (xs ++ ys) → ComesBehind (transfer_key t) ys → NoneAfter t xs
none_after t [] ys o h = tt
none_after t (x ∷ []) [] o h = absurd h
none_after t (x ∷ []) (y ∷ ys) o h = (upto_before total x y t o.0 h, tt)
none_after t (x ∷ z ∷ xs) ys o h =
    let n : NoneAfter t (z ∷ xs) = none_after t (z ∷ xs) ys o.1 h in
    (upto_before total x z t o.0 n.0, n)

-- so it comes in behind them
pub comes_behind : (t : Outbound) (xs ys : List Outbound) → NoneAfter t xs → inserted_by R t (xs ++ ys) ≡ xs ++ inserted_by R t ys
comes_behind t [] ys n = refl
comes_behind t (x ∷ xs) ys n = rw (n.0) (ap (λ zs. x ∷ zs) (comes_behind t xs ys n.1))

-- if it comes before all of those behind, it comes in among those in front
pub comes_among : (t : Outbound) (xs ys : List Outbound) → ComesFirst (transfer_key t) ys → inserted_by R t (xs ++ ys) ≡ inserted_by R t xs ++ ys
comes_among t [] [] h = refl
comes_among t [] (y ∷ ys) h = rw h refl
comes_among t (x ∷ xs) ys h =
    elim (is_lt (R t x)) as (λ b. (if b then t ∷ (x ∷ (xs ++ ys)) else x ∷ inserted_by R t (xs ++ ys)) ≡ (if b then t ∷ (x ∷ xs) else x ∷ inserted_by R t xs) ++ ys)
    [ true ↦ refl | false ↦ ap (λ zs. x ∷ zs) (comes_among t xs ys h) ]

-- it comes in at a place where it comes before all that follow, and the one in front does not come after it
in_front : (t : Outbound) (xs : List Outbound) → ComesFirst (transfer_key t) xs → t ∷ xs ≡ inserted_by R t xs
in_front t [] h = refl
in_front t (x ∷ xs) h = rw h refl

none_from : (t d : Outbound) (x : Outbound) (xs : List Outbound) (n : ℕ) → InOrder (x ∷ xs) → n < length (x ∷ xs) → is_lt (R t (get_or (x ∷ xs) n d)) ≡ false → is_lt (R t x) ≡ false
none_from t d x xs zero o l h = h
none_from t d x [] (suc n) o l h = absurd (omega (arith, l))
none_from t d x (y ∷ xs) (suc n) o l h = upto_before total x y t o.0 (none_from t d y xs n o.1 (omega (arith, l)) h)

placed_at : (t d : Outbound) (xs : List Outbound) (n : ℕ) → InOrder xs → n < length xs → ComesFirst (transfer_key t) (drop (suc n) xs) → is_lt (R t (get_or xs n d)) ≡ false → insert xs (suc n) t ≡ inserted_by R t xs
placed_at t d [] n o l f h = absurd (omega (arith, l))
placed_at t d (x ∷ xs) zero o l f h = rw h (ap (λ zs. x ∷ zs) (in_front t xs f))
placed_at t d (x ∷ xs) (suc n) o l f h =
    let here : is_lt (R t x) ≡ false = none_from t d x xs (suc n) o l h in
    rw here (ap (λ zs. x ∷ zs) (placed_at t d xs n o.1 (omega (arith, l)) f h))

pub placed :
    (key : Key) (x : Outbound) (xs : List Outbound) (n : ℕ) → InOrder xs → 0 < n → n ≤ length xs → ComesFirst key (drop n xs) → x ≡ get_or xs (n - 1) x → is_lt (key_cmp key (transfer_key x)) ≡ false
    → (t : Outbound) → transfer_key t ≡ key → insert xs n t ≡ inserted_by R t xs
placed key x xs n o p l f e h t k =
    let more : n ≡ suc (n - 1) = omega (arith, p) in
    let first : ComesFirst (transfer_key t) (drop (suc (n - 1)) xs) = subst (λ m. ComesFirst (transfer_key t) (drop m xs)) more (subst (λ j. ComesFirst j (drop n xs)) (sym k) f) in
    let behind : is_lt (R t (get_or xs (n - 1) x)) ≡ false = ap (λ j. is_lt (key_cmp j (transfer_key (get_or xs (n - 1) x)))) k ∙ ap (λ y. is_lt (key_cmp key (transfer_key y))) (sym e) ∙ h in
    subst (λ m. insert xs m t ≡ inserted_by R t xs) (sym more) (placed_at t x xs (n - 1) o (omega (arith, p, l)) first behind)

-- the last in front, which may as well stand behind
pub moved : (xs zs ys : List Outbound) (x : Outbound) → zs ≡ xs ++ x ∷ [] → zs ++ ys ≡ xs ++ (x ∷ ys)
moved xs zs ys x e = ap (λ ws. ws ++ ys) e ∙ append_assoc xs (x ∷ []) ys

module _ (xs zs ys : List Outbound) (x : Outbound) (e : zs ≡ xs ++ x ∷ []) (o : InOrder (zs ++ ys)) where
  moved_in_order : InOrder (xs ++ (x ∷ ys))
  moved_in_order = subst InOrder (moved xs zs ys x e) o

  pub last_before : IsBefore R x ys
  last_before = (back_in_order xs (x ∷ ys) moved_in_order).0

  pub others_in_order : InOrder xs
  others_in_order = front_in_order xs (x ∷ ys) moved_in_order

  -- a transfer that comes before it comes in among the others in front
  pub among_others : {A E : Type 0} (r : Result A E) (t : Outbound) (front behind : List Outbound) → is_lt (key_cmp (transfer_key t) (transfer_key x)) ≡ true → behind ≡ x ∷ ys → OnOk r (front ≡ inserted_by R t xs)
      → OnOk r (front ++ behind ≡ inserted_by R t (zs ++ ys))
  among_others (Err k) t front behind h b a = tt
  among_others (Ok k) t front behind h b a =
      ap (λ ws. front ++ ws) b ∙ ap (λ ws. ws ++ (x ∷ ys)) a ∙ sym (comes_among t xs (x ∷ ys) h) ∙ ap (inserted_by R t) (sym (moved xs zs ys x e))

  -- one that does not comes in behind
  pub behind_last : {A E : Type 0} (r : Result A E) (t : Outbound) (front behind : List Outbound) → is_lt (key_cmp (transfer_key t) (transfer_key x)) ≡ false → front ≡ xs ++ x ∷ [] → OnOk r (behind ≡ inserted_by R t ys)
      → OnOk r (front ++ behind ≡ inserted_by R t (zs ++ ys))
  behind_last (Err k) t front behind h f a = tt
  behind_last (Ok k) t front behind h f a =
      let among : inserted_by R t (x ∷ ys) ≡ x ∷ inserted_by R t ys = rw h refl in
      ap (λ ws. ws ++ behind) f ∙ append_assoc xs (x ∷ []) behind ∙ ap (λ ws. xs ++ (x ∷ ws)) a
      ∙ ap (λ ws. xs ++ ws) (sym among)
      ∙ sym (comes_behind t xs (x ∷ ys) (none_after t xs (x ∷ ys) moved_in_order h))
      ∙ ap (inserted_by R t) (sym (moved xs zs ys x e))

-- with one more, or as they were, they are in order
pub still_in_order : {A E : Type 0} (r : Result A E) (t : Outbound) (old new : List Outbound) → InOrder old → OnOk r (new ≡ inserted_by R t old) → OnErr r (new ≡ old) → InOrder new
still_in_order (Ok k) t old new o a s = subst InOrder (sym a) (ordered_inserted total t old o)
still_in_order (Err k) t old new o a s = subst InOrder (sym s) o

pub more_behind : {A E : Type 0} (r : Result A E) (t : Outbound) (xs ys new : List Outbound) → InOrder (xs ++ ys) → ComesBehind (transfer_key t) ys → OnOk r (new ≡ inserted_by R t ys) → OnOk r (xs ++ new ≡ inserted_by R t (xs ++ ys))
more_behind (Err k) t xs ys new o h a = tt
more_behind (Ok k) t xs ys new o h a = ap (λ ws. xs ++ ws) a ∙ sym (comes_behind t xs ys (none_after t xs ys o h))

pub more_among : {A E : Type 0} (r : Result A E) (t : Outbound) (xs ys new : List Outbound) → ComesFirst (transfer_key t) ys → OnOk r (new ≡ inserted_by R t xs) → OnOk r (new ++ ys ≡ inserted_by R t (xs ++ ys))
more_among (Err k) t xs ys new h a = tt
more_among (Ok k) t xs ys new h a = ap (λ ws. ws ++ ys) a ∙ sym (comes_among t xs ys h)

pub none_more : {A E : Type 0} (r : Result A E) (f : List Outbound → List Outbound) (old new : List Outbound) → OnErr r (new ≡ old) → OnErr r (f new ≡ f old)
none_more (Ok k) f old new s = tt
none_more (Err k) f old new s = ap f s

-- the first in front is the least
pub front_is_least : (x : Outbound) (xs ys : List Outbound) → InOrder (xs ++ ys) → 0 < length xs → x ≡ get_or xs 0 x → Some (transfer_key x) ≡ least (map transfer_key (xs ++ ys))
front_is_least x [] ys o l h = absurd (omega (arith, l))
front_is_least x (y ∷ xs) ys o l h = ap (λ (t : Outbound). Some (transfer_key t)) h ∙ sym (first_is_least y (xs ++ ys) o)

pub taken_is_least : (x : Outbound) (xs zs ys : List Outbound) → zs ≡ x ∷ xs → InOrder (zs ++ ys) → least (map transfer_key (zs ++ ys)) ≡ Some (transfer_key x)
taken_is_least x xs zs ys e o = rw e (first_is_least x (xs ++ ys) (subst (λ ws. InOrder (ws ++ ys)) e o))

-- where none is in front, it is the first behind
pub none_left : (xs zs : List Outbound) → xs ≡ zs → zs ≡ drop 1 xs → xs ≡ []
none_left [] zs e h = refl
none_left (x ∷ xs) zs e h = let l : suc (length xs) ≡ length xs = ap length (e ∙ h) in absurd (omega (arith, l))

pub behind_is_least : (r : Option Outbound) (xs ys zs : List Outbound) → xs ≡ [] → InOrder (xs ++ ys) → MatchOption r ((ys ≡ []) × (zs ≡ [])) (λ first. ys ≡ first ∷ zs)
    → IfSome r (λ first. least (map transfer_key (xs ++ ys)) ≡ Some (transfer_key first))
behind_is_least None xs ys zs e o h = tt
behind_is_least (Some x) xs ys zs e o h = rw (e, h) (first_is_least x zs (subst InOrder h (back_in_order xs ys o)))

-- whether a key comes first, by the least
pub before_least : (key least_key : Key) (ys : List Outbound) → InOrder ys → Some least_key ≡ least (map transfer_key ys) → is_lt (key_cmp key least_key) ≡ true → ComesFirst key ys
before_least key l [] o e h = tt
before_least key l (y ∷ ys) o e h = let same : l ≡ transfer_key y = some_same (e ∙ first_is_least y ys o) in subst (λ k. is_lt (key_cmp key k) ≡ true) same h

pub behind_least : (key least_key : Key) (ys : List Outbound) → InOrder ys → Some least_key ≡ least (map transfer_key ys) → is_lt (key_cmp key least_key) ≡ false → ComesBehind key ys
behind_least key l [] o e h = cc
behind_least key l (y ∷ ys) o e h = let same : l ≡ transfer_key y = some_same (e ∙ first_is_least y ys o) in subst (λ k. is_lt (key_cmp key k) ≡ false) same h

pub none_to_come : (key : Key) (ys : List Outbound) → InOrder ys → None ≡ least (map transfer_key ys) → ComesFirst key ys
none_to_come key [] o e = tt
none_to_come key (y ∷ ys) o e = let none : None ≡ Some (transfer_key y) = e ∙ first_is_least y ys o in cc
