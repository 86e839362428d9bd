-- Lists whose elements have their numbers.
use Rattle.std.proofs.Common.{◌≡◌, ℕ, suc, ◌+◌, ◌<◌, ◌≤◌, List, [], ◌∷◌, ◌++◌, length, take, get_or, sym, ap, ◌∙◌, arith}
use Rattle.std.specs.Prelude.{flat_map, sum_by}
use Rattle.std.specs.List.{enumerate_from}
use Rattle.std.proofs.Math.Seq.{take-suc}
use Rattle.std.proofs.lemmas.List.{append-nil, append_assoc, take_all}
use Rattle.std.proofs.lemmas.List.Concat.{flat_map-append}
use Rattle.std.proofs.lemmas.List.FromFn.{get_or-enumerate_from, length-enumerate_from}
use Rattle.std.proofs.lemmas.List.Sums.{sum_by_more}
use Rattle.sqs_formats.specs.Rows.{line, lines}

-- an element with its number
numbered-at : {X : Type 0} (xs : List X) (i : ℕ) (d : X) → i < length xs → get_or (enumerate_from 0 xs) i (0, d) ≡ (i, get_or xs i d)
numbered-at {X} xs i d h =
    let zero_more : 0 + i ≡ i = omega arith in
    get_or-enumerate_from 0 xs i (0, d) h ∙ ap (λ (n : ℕ). (n, get_or xs i d)) zero_more

-- a sum over the first elements, with the next one
pub sum-further : {X : Type 0} (f : ℕ × X → ℕ) (xs : List X) (i : ℕ) (d : X) → i < length xs
    → sum_by f (take (i + 1) (enumerate_from 0 xs)) ≡ sum_by f (take i (enumerate_from 0 xs)) + f (i, get_or xs i d)
sum-further {X} f xs i d h =
    sum_by_more f (enumerate_from 0 xs) i (0, d) (omega (arith, h, length-enumerate_from 0 xs))
    ∙ ap (λ (p : ℕ × X). sum_by f (take i (enumerate_from 0 xs)) + f p) (numbered-at xs i d h)

-- lines of the first elements, with those of the next one
pub lines-further : {X : Type 0} (g : ℕ × X → List (List (List ℕ))) (text : List ℕ) (xs : List X) (i : ℕ) (d : X) → i < length xs
    → (text ++ lines (flat_map g (take i (enumerate_from 0 xs)))) ++ lines (g (i, get_or xs i d)) ≡ text ++ lines (flat_map g (take (i + 1) (enumerate_from 0 xs)))
lines-further {X} g text xs i d h =
    let all = enumerate_from 0 xs in
    let first = take i all in
    let one = g (i, get_or xs i d) in
    let next : i + 1 ≡ suc i = omega arith in
    let more : take (i + 1) all ≡ first ++ (i, get_or xs i d) ∷ [] =
    ap (λ k. take k all) next ∙ take-suc all i (0, d) (omega (arith, h, length-enumerate_from 0 xs))
    ∙ ap (λ (p : ℕ × X). first ++ p ∷ []) (numbered-at xs i d h) in
    let said : flat_map g (take (i + 1) all) ≡ flat_map g first ++ one =
    ap (flat_map g) more ∙ flat_map-append g first ((i, get_or xs i d) ∷ []) ∙ ap (λ (rs : List (List (List ℕ))). flat_map g first ++ rs) (append-nil one) in
    append_assoc text (lines (flat_map g first)) (lines one)
    ∙ ap (λ (ls : List ℕ). text ++ ls) (sym (flat_map-append line (flat_map g first) one) ∙ ap lines (sym said))

-- all elements
pub all-taken : {X : Type 0} (xs : List X) (i : ℕ) → length xs ≤ i → take i (enumerate_from 0 xs) ≡ enumerate_from 0 xs
all-taken xs i h = take_all i (enumerate_from 0 xs) (omega (arith, h, length-enumerate_from 0 xs))
