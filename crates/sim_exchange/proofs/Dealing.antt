-- Lists that each get the transfers to one partition.
use Rattle.std.specs.List.{range_with_len}
use Rattle.std.specs.Prelude.{Bool, List, [], cond, false, get_or, length, map, set, true, ℕ, ◌+◌, ◌++◌, ◌<◌, ◌==◌, ◌∷◌, ◌≡◌, ◌≢◌, ◌≤◌}
use Rattle.std.proofs.Common.{ap, append-nil, append_assoc, arith, below_more, eqb-true, get_or-set_other, get_or-set_same, refl, subst, sym, ◌∙◌}
use Rattle.std.proofs.lemmas.Bool.{eqb-false}
use Rattle.std.proofs.lemmas.List.{ext_get_or, get_or-map, length-map, length-set, map-set}
use Rattle.std.proofs.lemmas.List.Elements.{filter-append}
use Rattle.std.proofs.lemmas.List.FromFn.{get_or-map-range_with_len, length-map-range_with_len}
use Rattle.sim_engine.specs.Exchange.{exchanged, sorted, to_part}
use Rattle.sim_exchange.specs.Dealt.{dealt}
use Rattle.sim_engine.specs.Engine.{Engine}

-- one of some lists gets one more
pub put_last :
    {A B : Type 0} (items : A → List B) (lists : List A) (place : ℕ) (x : B) (v w : A) → place < length lists → v ≡ get_or lists place v → items w ≡ items v ++ x ∷ []
    → map items (set lists place w) ≡ set (map items lists) place (get_or (map items lists) place [] ++ x ∷ [])
put_last items lists place x v w l at is =
    let same : items v ≡ get_or (map items lists) place [] = ap items at ∙ sym (get_or-map items lists place v [] l) in
    map-set items lists place w ∙ ap (set (map items lists) place) (is ∙ ap (λ z. z ++ x ∷ []) same)

map_both : {A B C : Type 0} (f : A → B) (g : B → C) (xs : List A) → map g (map f xs) ≡ map (λ x. g (f x)) xs
map_both f g [] = refl
map_both f g (x ∷ xs) = ap (λ ys. g (f x) ∷ ys) (map_both f g xs)

-- some lists of which the first so many are changed
pub record AreChanged {A : Type 0} (f : List A → List A) (ys xs : List (List A)) (i : ℕ) : Type 0 where
  pub many : length xs ≡ length ys
  pub done : (k : ℕ) → k < i → get_or xs k [] ≡ f (get_or ys k [])
  pub left : (k : ℕ) → i ≤ k → get_or xs k [] ≡ get_or ys k []

pub none_changed : {A : Type 0} (f : List A → List A) (ys : List (List A)) → AreChanged f ys ys 0
none_changed f ys = record { many = refl; done = λ k h. absurd (omega arith); left = λ k h. refl }

pub all_changed : {A : Type 0} (f : List A → List A) (ys xs : List (List A)) (i : ℕ) → length xs ≤ i → AreChanged f ys xs i → xs ≡ map f ys
all_changed f ys xs i l c =
    ext_get_or [] xs (map f ys) (c.many ∙ sym (length-map ys f))
    (λ k h. c.done k (omega arith) ∙ sym (get_or-map f ys k [] [] (omega (arith, c.many))))

module _ {Site Row Transfer : Type 0} (engine : Engine Site Row Transfer) where
  open engine use {to}

  module _ (owner : ℕ → ℕ) (parts : ℕ) where
    pub dealt_length : (os : List Transfer) → length (dealt engine owner parts os) ≡ parts
    dealt_length os = length-map-range_with_len (λ p. to_part engine owner p os) 0 parts

    -- what the list of a partition has
    dealt_at : (os : List Transfer) (p : ℕ) → p < parts → get_or (dealt engine owner parts os) p [] ≡ to_part engine owner p os
    dealt_at os p l = get_or-map-range_with_len (λ q. to_part engine owner q os) 0 parts p p [] l (omega arith)

    more_by : (os : List Transfer) (o : Transfer) (p : ℕ) → p < parts → owner (to o) < parts → (b : Bool) → (owner (to o) == p) ≡ b
        → get_or (set (dealt engine owner parts os) (owner (to o)) (get_or (dealt engine owner parts os) (owner (to o)) [] ++ o ∷ [])) p [] ≡ to_part engine owner p os ++ cond b (o ∷ []) []
    more_by os o p l k true e =
        let q : owner (to o) ≡ p = eqb-true (owner (to o)) p e in
        let there : p < length (dealt engine owner parts os) = omega (arith, dealt_length os) in
        rw q (get_or-set_same (dealt engine owner parts os) p (get_or (dealt engine owner parts os) p [] ++ o ∷ []) [] there ∙ ap (λ z. z ++ o ∷ []) (dealt_at os p l))
    more_by os o p l k false e =
        let q : p ≢ owner (to o) = λ s. eqb-false (owner (to o)) p e (sym s) in
        get_or-set_other (dealt engine owner parts os) (owner (to o)) p (get_or (dealt engine owner parts os) (owner (to o)) [] ++ o ∷ []) [] q
        ∙ dealt_at os p l ∙ sym (append-nil (to_part engine owner p os))

    -- one more transfer goes into the list of its partition
    pub dealt_more :
        (os : List Transfer) (o : Transfer) → owner (to o) < parts
        → set (dealt engine owner parts os) (owner (to o)) (get_or (dealt engine owner parts os) (owner (to o)) [] ++ o ∷ []) ≡ dealt engine owner parts (os ++ o ∷ [])
    dealt_more os o k =
        let d = dealt engine owner parts os in
        let n : length (set d (owner (to o)) (get_or d (owner (to o)) [] ++ o ∷ [])) ≡ parts = length-set d (owner (to o)) (get_or d (owner (to o)) [] ++ o ∷ []) ∙ dealt_length os in
        ext_get_or [] _ _ (n ∙ sym (dealt_length (os ++ o ∷ [])))
        (λ p l. let m : p < parts = subst (λ (x : ℕ). p < x) n l in
        more_by os o p m k _ refl ∙ sym (dealt_at (os ++ o ∷ []) p m ∙ filter-append (λ x. owner (to x) == p) os (o ∷ [])))

    -- the same of lists that have been dealt some transfers before
    pub dealt_next :
        (lists more : List (List Transfer)) (before os : List Transfer) (o : Transfer) (p : ℕ) → p ≡ owner (to o) → p < parts → lists ≡ dealt engine owner parts (before ++ os)
        → more ≡ set lists p (get_or lists p [] ++ o ∷ []) → more ≡ dealt engine owner parts (before ++ (os ++ o ∷ []))
    dealt_next lists more before os o p e l h k =
        k ∙ ap (λ (ls : List (List Transfer)). set ls p (get_or ls p [] ++ o ∷ [])) h
        ∙ ap (λ (q : ℕ). set (dealt engine owner parts (before ++ os)) q (get_or (dealt engine owner parts (before ++ os)) q [] ++ o ∷ [])) e
        ∙ dealt_more (before ++ os) o (subst (λ (q : ℕ). q < parts) e l)
        ∙ ap (dealt engine owner parts) (append_assoc before os (o ∷ []))

    -- in the order of keys
    pub dealt_sorted : (os : List Transfer) → map (sorted engine) (dealt engine owner parts os) ≡ exchanged engine owner parts os
    dealt_sorted os = map_both (λ p. to_part engine owner p os) (sorted engine) (range_with_len 0 parts)

  -- one more is changed
  pub changed_more : {A : Type 0} (f : List A → List A) (ys xs : List (List A)) (i : ℕ) (x : List A) → i < length xs → AreChanged f ys xs i → x ≡ f (get_or xs i []) → AreChanged f ys (set xs i x) (i + 1)
  changed_more f ys xs i x l c e = record {
    many = length-set xs i x ∙ c.many;
    done =
        below_more (λ k. get_or (set xs i x) k [] ≡ f (get_or ys k [])) i
        (λ k h. let n : k ≢ i = omega arith in get_or-set_other xs i k x [] n ∙ c.done k h)
        (get_or-set_same xs i x [] l ∙ e ∙ ap f (c.left i (omega arith)));
    left = λ k h. let n : k ≢ i = omega arith in get_or-set_other xs i k x [] n ∙ c.left k (omega arith);
  }

  -- one more of some lists by what they hold
  pub changed_element :
      {A C : Type 0} (items : C → List A) (f : List A → List A) (ys : List (List A)) (vs : List C) (i : ℕ) (d v : C) → i < length vs → AreChanged f ys (map items vs) i
      → items v ≡ f (items (get_or vs i d)) → AreChanged f ys (map items (set vs i v)) (i + 1)
  changed_element {A} items f ys vs i d v l c e =
      subst (λ (xs : List (List A)). AreChanged f ys xs (i + 1)) (sym (map-set items vs i v))
      (changed_more f ys (map items vs) i (items v) (omega (arith, length-map vs items)) c (e ∙ sym (ap f (get_or-map items vs i d [] l))))
