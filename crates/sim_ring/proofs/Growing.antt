-- What is made of the numbers from 0 on, with one more.
use Rattle.std.specs.List.{range_with_len}
use Rattle.std.specs.Prelude.{List, [], map, ℕ, ◌+◌, ◌++◌, ◌∷◌, ◌≡◌}
use Rattle.std.proofs.Common.{ap, arith, sym, ◌∙◌}
use Rattle.std.proofs.lemmas.List.FromFn.{map-range_with_len_more}

pub grown :
    {A : Type 0} (f : ℕ → A) (n : ℕ) (xs ys : List A) (y : A) → xs ≡ map f (range_with_len 0 n) → y ≡ f n
    → ys ≡ xs ++ y ∷ [] → ys ≡ map f (range_with_len 0 (n + 1))
grown f n xs ys y h e more =
    more ∙ ap (λ zs. zs ++ y ∷ []) h ∙ ap (λ z. map f (range_with_len 0 n) ++ z ∷ []) e
    ∙ sym (map-range_with_len_more f 0 n n (omega arith))
