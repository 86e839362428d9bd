-- Actors whose numbers do not fall.
use Rattle.std.specs.Prelude.{List, None, Some, false, get_or, length, map, position, true, ℕ, ◌-◌, ◌<◌, ◌≡◌, ◌≢◌, ◌≤◌}
use Rattle.std.specs.List.{AllAdjacentBelow}
use Rattle.std.specs.List.Sorted.{IsNonDecreasingBy, IsPartitionPoint}
use Rattle.std.proofs.Common.{ap, arith, inl, inr, sym, ◌∙◌}
use Rattle.std.proofs.lemmas.Bool.{cases_lt, ltb-false, ltb-true}
use Rattle.std.proofs.lemmas.Bool.Decides.{nat_tests}
use Rattle.std.proofs.lemmas.List.{get_or-map, length-map}
use Rattle.std.proofs.lemmas.List.Sorted.{IsNonDecreasingBy-from_all_adjacent}
use Rattle.std.proofs.Math.Dec.{ltb}
use Rattle.sqs_model.specs.Actor.{Actor}
use Rattle.sqs_model.specs.Site.{is_actor}
use Rattle.sim_site.proofs.Picked.{first_picked, none_picked}

-- the numbers of actors
abbrev pub number : Actor → ℕ
number a = a.number

-- what has the same numbers does not fall either
pub rise_alike : (xs ys : List Actor) → map number ys ≡ map number xs → IsNonDecreasingBy number xs → IsNonDecreasingBy number ys
rise_alike xs ys e h i j d le l =
    let long : length ys ≡ length xs = sym (length-map ys number) ∙ ap length e ∙ length-map xs number in
    let at : (k : ℕ) → k < length ys → number (get_or ys k d) ≡ number (get_or xs k d) =
    λ k w. sym (get_or-map number ys k d 0 w) ∙ ap (λ ms. get_or ms k 0) e ∙ get_or-map number xs k d 0 (omega (arith, w, long)) in
    omega (arith, le, l, at i (omega (arith, le, l)), at j l, h i j d le (omega (arith, l, long)))

other_number : (n : ℕ) (a : Actor) → a.number < n → is_actor n a ≡ false
other_number n a h = grind (arith, nat_tests)

past_number : (n : ℕ) (a : Actor) → n < a.number → is_actor n a ≡ false
past_number n a h = grind (arith, nat_tests)

pub its_number : (n : ℕ) (a : Actor) → a.number ≡ n → is_actor n a ≡ true
its_number n a h = grind (arith, nat_tests)

-- the first actor with a number, by the place before which the numbers are less
pub number_there :
    (n : ℕ) (xs : List Actor) (i : ℕ) (a : Actor) → i < length xs → IsPartitionPoint (λ x. ltb x.number n ≡ true) (λ x. ltb x.number n ≡ false) xs i
    → a ≡ get_or xs i a → a.number ≡ n → Some i ≡ position (is_actor n) xs
number_there n xs i a l p here same =
    first_picked (is_actor n) xs i a l (λ k w. other_number n (get_or xs k a) (ltb-true _ _ (p.0 k a (omega arith) w))) (its_number n (get_or xs i a) (ap number (sym here) ∙ same))

-- the same by its own number and that of the one before it
pub number_here :
    (n : ℕ) (xs : List Actor) (i : ℕ) (a : Actor) → i < length xs → IsNonDecreasingBy number xs → (i ≢ 0 → (get_or xs (i - 1) a).number < n)
    → (get_or xs i a).number ≡ n → position (is_actor n) xs ≡ Some i
number_here n xs i a l o before here =
    sym (first_picked (is_actor n) xs i a l (λ k w.
    let le : (get_or xs k a).number ≤ (get_or xs (i - 1) a).number = o k (i - 1) a (omega (arith, w)) (omega (arith, w, l)) in
    let less : (get_or xs (i - 1) a).number < n = before (λ e. omega (arith, w, e)) in
    other_number n (get_or xs k a) (omega (arith, le, less))) (its_number n (get_or xs i a) here))

past_by : (n : ℕ) (xs : List Actor) (i : ℕ) → IsNonDecreasingBy number xs → IsPartitionPoint (λ x. ltb x.number n ≡ true) (λ x. ltb x.number n ≡ false) xs i
    → ((d : Actor) → i < length xs → (get_or xs i d).number ≢ n) → (j : ℕ) (d : Actor) → i ≤ j → j < length xs → n < (get_or xs j d).number
past_by n xs i o p other j d b w =
    let l : i < length xs = omega (arith, w, b) in
    let least : n ≤ (get_or xs i d).number = ltb-false _ _ (p.1 i d (omega arith) l) in
    let rises : (get_or xs i d).number ≤ (get_or xs j d).number = o i j d b w in
    let apart : (get_or xs i d).number ≢ n = other d l in
    omega (arith, least, rises, apart)

pub number_nowhere :
    (n : ℕ) (xs : List Actor) (i : ℕ) → IsNonDecreasingBy number xs → IsPartitionPoint (λ x. ltb x.number n ≡ true) (λ x. ltb x.number n ≡ false) xs i
    → ((d : Actor) → i < length xs → (get_or xs i d).number ≢ n) → None ≡ position (is_actor n) xs
number_nowhere n xs i o p other =
    none_picked (is_actor n) xs (λ j d w.
    elim (cases_lt j i) as (λ _. is_actor n (get_or xs j d) ≡ false) [
      | inl b ↦ other_number n (get_or xs j d) (ltb-true _ _ (p.0 j d (omega arith) b))
      | inr b ↦ past_number n (get_or xs j d) (past_by n xs i o p other j d b w)
    ])

-- what rises as far as the end rises
pub rise_whole : (xs : List Actor) (i : ℕ) → length xs ≤ i → AllAdjacentBelow (λ (x : Actor) (y : Actor). x.number ≤ y.number) xs i → IsNonDecreasingBy number xs
rise_whole xs i l h = IsNonDecreasingBy-from_all_adjacent number xs (λ k d w. h k d (omega (arith, w, l)))
