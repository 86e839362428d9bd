-- Where a test first picks an element of a list.
use Rattle.std.specs.Prelude.{Bool, List, None, Some, [], cond, false, get_or, length, nat_lt, position, true, ℕ, ◌<◌, ◌∷◌, ◌≡◌}
use Rattle.std.specs.List.{position_or_len}
use Rattle.std.proofs.Common.{ap, arith, refl, sym, ◌∙◌}
use Rattle.std.proofs.lemmas.Bool.{le-ltb, lt-ltb}
use Rattle.std.proofs.lemmas.List.Sums.{position_or_len_is}

-- a test that picks none finds no place
pub none_picked : {A : Type 0} (p : A → Bool) (xs : List A) → ((k : ℕ) (d : A) → k < length xs → p (get_or xs k d) ≡ false) → None ≡ position p xs
none_picked p [] h = refl
none_picked p (x ∷ xs) h =
    let past : position_or_len p (x ∷ xs) ≡ length (x ∷ xs) = position_or_len_is p (x ∷ xs) (length (x ∷ xs)) x (omega arith) (λ k l. h k x l) (λ l. absurd (omega (arith, l))) in
    sym (ap (λ n. cond (nat_lt n (length (x ∷ xs))) (Some n) None) past ∙ ap (λ b. cond b (Some (length (x ∷ xs))) None) (le-ltb (length (x ∷ xs)) (length (x ∷ xs)) (omega arith)))

-- one that picks an element and none before it finds its place
pub first_picked :
    {A : Type 0} (p : A → Bool) (xs : List A) (i : ℕ) (d : A) → i < length xs → ((k : ℕ) → k < i → p (get_or xs k d) ≡ false) → p (get_or xs i d) ≡ true → Some i ≡ position p xs
first_picked p xs i d l before here =
    let first : position_or_len p xs ≡ i = position_or_len_is p xs i d (omega (arith, l)) before (λ _. here) in
    ap (λ b. cond b (Some i) None) (sym (lt-ltb i (length xs) l)) ∙ ap (λ n. cond (nat_lt n (length xs)) (Some n) None) (sym first)
