-- What is made of the numbers from 0 on, with one more.
use Rattle.std.specs.List.{range_with_len}
use Rattle.std.specs.Prelude.{List, [], flat_map, map, ℕ, ◌+◌, ◌++◌, ◌∷◌, ◌≡◌}
use Rattle.std.proofs.Common.{ap, arith, sym, ◌∙◌}
use Rattle.std.proofs.lemmas.Grind.{flat_map-append}
use Rattle.std.proofs.lemmas.List.{append_assoc, append-nil}
use Rattle.std.proofs.lemmas.List.Folds.{flat_map-map}
use Rattle.std.proofs.lemmas.List.FromFn.{map-range_with_len_more}

-- behind others, one for each number
pub grown_behind :
    {A : Type 0} (f : ℕ → A) (n : ℕ) (before xs ys : List A) (y : A) → xs ≡ before ++ map f (range_with_len 0 n)
    → y ≡ f n → ys ≡ xs ++ y ∷ [] → ys ≡ before ++ map f (range_with_len 0 (n + 1))
grown_behind f n before xs ys y h e more =
    more ∙ ap (λ zs. zs ++ y ∷ []) h ∙ ap (λ z. (before ++ map f (range_with_len 0 n)) ++ z ∷ []) e
    ∙ append_assoc before (map f (range_with_len 0 n)) (f n ∷ [])
    ∙ ap (λ zs. before ++ zs) (sym (map-range_with_len_more f 0 n n (omega arith)))

-- some for each number
pub joined_more :
    {A : Type 0} (f : ℕ → List A) (n : ℕ)
    → flat_map f (range_with_len 0 (n + 1)) ≡ flat_map f (range_with_len 0 n) ++ f n
joined_more {A} f n =
    let same : List A → List A = λ xs. xs in
    let numbers = range_with_len 0 n in
    sym (flat_map-map same f (range_with_len 0 (n + 1)))
    ∙ ap (flat_map same) (map-range_with_len_more f 0 n n (omega arith))
    ∙ flat_map-append same (map f numbers) (f n ∷ [])
    ∙ ap (λ zs. zs ++ flat_map same (f n ∷ [])) (flat_map-map same f numbers)
    ∙ ap (λ zs. flat_map f numbers ++ zs) (append-nil (f n))
