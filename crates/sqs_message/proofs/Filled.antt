-- Bytes of a body that stand as they are.
use Rattle.std.proofs.Common.{◌≡◌, ◌≢◌, ℕ, ◌+◌, ◌<◌, ◌==◌, ◌&&◌, Bool, false, true, List, [], ◌∷◌, ◌++◌, drop, length, take, get_or, arith, refl, ap, sym, ◌∙◌}
use Rattle.std.proofs.lemmas.Bool.Decides.{nat_tests}
use Rattle.std.proofs.lemmas.List.{append_assoc, drop_more, take_more}
use Rattle.sqs_message.specs.Bodies.{contains, filled, has_mark}
use Rattle.sqs_message.specs.Sources.{made_of}
use Rattle.std.specs.Fmt.{decimal}
use Rattle.std.specs.Str.{bytes_eq}

filled_by : (n : List ℕ) (a b c : ℕ) (rest : List ℕ) (mark : Bool) → has_mark (a ∷ (b ∷ (c ∷ rest))) ≡ mark → mark ≡ false → filled n (a ∷ (b ∷ (c ∷ rest))) ≡ a ∷ filled n (b ∷ (c ∷ rest))
filled_by n a b c rest mark e f = rw (filled, e ∙ f) refl

-- the first of bytes that do not begin with a mark stands as it is
pub first_stands : (n : List ℕ) (a : ℕ) (rest : List ℕ) → has_mark (a ∷ rest) ≡ false → filled n (a ∷ rest) ≡ a ∷ filled n rest
first_stands n a [] h = refl
first_stands n a (b ∷ []) h = refl
first_stands n a (b ∷ (c ∷ rest)) h = filled_by n a b c rest false h refl

no_brace : (a b c : ℕ) → a ≢ 123 → (a == 123 && b == 110 && c == 125) ≡ false
no_brace a b c h = grind (arith, nat_tests)

no_mark : (a : ℕ) (rest : List ℕ) → a ≢ 123 → has_mark (a ∷ rest) ≡ false
no_mark a [] h = refl
no_mark a (b ∷ []) h = refl
no_mark a (b ∷ (c ∷ rest)) h = no_brace a b c h

-- and so does one more that is no brace
pub one_more : (n bytes : List ℕ) (k : ℕ) → k < length bytes → get_or bytes k 0 ≢ 123 → filled n bytes ≡ take k bytes ++ filled n (drop k bytes) → filled n bytes ≡ take (k + 1) bytes ++ filled n (drop (k + 1) bytes)
one_more n bytes k l h e =
    let b : ℕ = get_or bytes k 0 in
    e
    ∙ ap (λ (xs : List ℕ). take k bytes ++ filled n xs) (drop_more bytes k 0 l)
    ∙ ap (λ (xs : List ℕ). take k bytes ++ xs) (first_stands n b (drop (k + 1) bytes) (no_mark b (drop (k + 1) bytes) h))
    ∙ sym (append_assoc (take k bytes) (b ∷ []) (filled n (drop (k + 1) bytes)))
    ∙ ap (λ (xs : List ℕ). xs ++ filled n (drop (k + 1) bytes)) (sym (take_more bytes k 0 l))

-- bytes that begin with a part contain it
pub begun : (part xs : List ℕ) → bytes_eq part (take (length part) xs) ≡ true → contains part xs ≡ true
begun [] [] e = refl
begun (p ∷ ps) [] e = e
begun part (x ∷ xs) e = rw e refl

-- bytes that do not begin with a part contain it only from their second byte on
pub not_begun : (part : List ℕ) (x : ℕ) (xs : List ℕ) → bytes_eq part (take (length part) (x ∷ xs)) ≡ false → contains part (x ∷ xs) ≡ contains part xs
not_begun part x xs e = rw e refl

-- no bytes contain no part that is not empty
pub none_begun : (part : List ℕ) → bytes_eq part (take (length part) []) ≡ false → contains part [] ≡ false
none_begun [] e = e
none_begun (p ∷ ps) e = refl

-- a body made of a numbered text is the text filled with the number
pub numbered : (is_numbered : Bool) (text : List ℕ) (n : ℕ) → is_numbered ≡ true → filled (decimal n) text ≡ made_of is_numbered text n
numbered is_numbered text n e = rw e refl
