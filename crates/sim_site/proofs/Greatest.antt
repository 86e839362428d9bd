-- The greatest of some numbers, one after another.
use Rattle.std.specs.Prelude.{List, [], get_or, length, map, max, take, ℕ, ◌++◌, ◌+◌, ◌<◌, ◌∷◌, ◌≡◌}
use Rattle.std.proofs.Common.{ap, arith, sym, ◌∙◌}
use Rattle.std.proofs.lemmas.List.{take_more}
use Rattle.sim_engine.specs.Counts.{greatest}

-- with one more at the end
greatest_later : {A : Type 0} (f : A → ℕ) (xs : List A) (x : A) → greatest (map f (xs ++ x ∷ [])) ≡ max (f x) (greatest (map f xs))
greatest_later f [] x = omega arith
greatest_later f (y ∷ ys) x = omega (arith, greatest_later f ys x)

-- with one more of those taken from a list
pub greatest_take : {A : Type 0} (f : A → ℕ) (xs : List A) (i : ℕ) (d : A) → i < length xs → greatest (map f (take (i + 1) xs)) ≡ max (f (get_or xs i d)) (greatest (map f (take i xs)))
greatest_take f xs i d h = ap (λ ys. greatest (map f ys)) (take_more xs i d h) ∙ greatest_later f (take i xs) (get_or xs i d)

-- the greatest so far, and the count of the next
pub greatest_next :
    {A : Type 0} (f : A → ℕ) (xs : List A) (i : ℕ) (x : A) (most n more : ℕ)
    → i < length xs → x ≡ get_or xs i x → n ≡ f x → most ≡ greatest (map f (take i xs)) → more ≡ max n most → more ≡ greatest (map f (take (i + 1) xs))
greatest_next {A} f xs i x most n more h here count so_far greater =
    greater ∙ ap (λ k. max k most) count ∙ ap (max (f x)) so_far ∙ ap (λ (y : A). max (f y) (greatest (map f (take i xs)))) here ∙ sym (greatest_take f xs i x h)
