-- Texts that tell numbers.
use Rattle.std.proofs.Common.{Bor, Bool, Err, List, None, Ok, Option, Result, Some, [], add-one, ap, append_assoc, cond, drop, drop-cons, false, get_or, length, map, refl, sym, true, ℕ, ◌&&◌, ◌+◌, ◌++◌, ◌<◌, ◌^◌, ◌∙◌, ◌∷◌, ◌≡◌}
use Rattle.std.proofs.lemmas.Bool.{and_parts, lt-ltb, ltb-true}
use Rattle.std.specs.Char.{digit_value}
use Rattle.std.specs.List.{list_all}
use Rattle.std.specs.Result.{result_ok}
use Rattle.std.specs.Prelude.{nat_lt, option_and_then, option_map}
use Rattle.std.specs.Str.Parse.{AllDigits, IsNumeral, ParsesUnsigned, digits_value, without_leading_plus}
use Rattle.sqs_shell.specs.Splits.{is_numeral, number_of, numbers_of}

all_digits : (ds : List ℕ) → list_all (λ d. nat_lt (digit_value d) 10) ds ≡ true → AllDigits 10 ds
all_digits [] e = tt
all_digits (d ∷ ds) e = let parts = and_parts _ _ e in (ltb-true _ _ parts.0, all_digits ds parts.1)

only_digits : (ds : List ℕ) → AllDigits 10 ds → list_all (λ d. nat_lt (digit_value d) 10) ds ≡ true
only_digits [] h = refl
only_digits (d ∷ ds) h = rw (lt-ltb (digit_value d) 10 h.0) (only_digits ds h.1)

abbrev is_number : List ℕ → Bool
is_number ds = is_numeral ds && nat_lt (digits_value 10 ds) (2 ^ 32)

numeral : (ds : List ℕ) → is_number ds ≡ true → IsNumeral 10 ds × (digits_value 10 ds < 2 ^ 32)
numeral ds e =
    let parts = and_parts _ _ e in
    let digits = and_parts _ _ parts.0 in
    ((ltb-true _ _ digits.0, all_digits ds digits.1), ltb-true _ _ parts.1)

is_numeral_of : (ds : List ℕ) → IsNumeral 10 ds → digits_value 10 ds < 2 ^ 32 → is_number ds ≡ true
is_numeral_of ds h lt = rw (lt-ltb 0 (length ds) h.0, only_digits ds h.1, lt-ltb (digits_value 10 ds) (2 ^ 32) lt) refl

-- what std reads as a number of 32 bits is the definition's
pub parsed : {E : Type 0} (text : List ℕ) (r : Result ℕ E) → ParsesUnsigned 32 10 text r → result_ok r ≡ number_of text
parsed text (Ok n) h =
    let ds = without_leading_plus text in
    ap (λ m. Some m) h.1 ∙ sym (ap (λ (b : Bool). cond b (Some (digits_value 10 ds)) None) (is_numeral_of ds h.0.0 h.0.1))
parsed text (Err e) h = go (is_number (without_leading_plus text)) refl
  where
    go : (b : Bool) → is_number (without_leading_plus text) ≡ b → None ≡ number_of text
    go true is = absurd (h (numeral (without_leading_plus text) is))
    go false is = sym (ap (λ (b : Bool). cond b (Some (digits_value 10 (without_leading_plus text))) None) is)

-- the texts from a place on
pub texts_at :
    (texts : List (Bor (List ℕ))) (i : ℕ) (d : Bor (List ℕ)) → i < length texts
    → map (λ t. t.now) (drop i texts) ≡ (get_or texts i d).now ∷ map (λ t. t.now) (drop (i + 1) texts)
texts_at texts i d lt = ap (map (λ t. t.now)) (drop-cons texts i d lt) ∙ ap (λ k. (get_or texts i d).now ∷ map (λ t. t.now) (drop k texts)) (sym (add-one i))

joined : (xs : List ℕ) (n : ℕ) (o : Option (List ℕ)) → option_map (λ ns. xs ++ ns) (option_map (λ ns. n ∷ ns) o) ≡ option_map (λ ns. (xs ++ n ∷ []) ++ ns) o
joined xs n None = refl
joined xs n (Some ns) = ap (λ l. Some l) (sym (append_assoc xs (n ∷ []) ns))

-- one more text that tells a number
pub one_more :
    (xs : List ℕ) (text : List ℕ) (rest : List (List ℕ)) (n : ℕ) → number_of text ≡ Some n
    → option_map (λ ns. xs ++ ns) (numbers_of (text ∷ rest)) ≡ option_map (λ ns. (xs ++ n ∷ []) ++ ns) (numbers_of rest)
one_more xs text rest n is =
    ap (λ (o : Option ℕ). option_map (λ ns. xs ++ ns) (option_and_then (λ m. option_map (λ ns. m ∷ ns) (numbers_of rest)) o)) is ∙ joined xs n (numbers_of rest)

-- one that tells none
pub no_more : (xs : List ℕ) (text : List ℕ) (rest : List (List ℕ)) → number_of text ≡ None → option_map (λ ns. xs ++ ns) (numbers_of (text ∷ rest)) ≡ None
no_more xs text rest is = ap (λ (o : Option ℕ). option_map (λ ns. xs ++ ns) (option_and_then (λ m. option_map (λ ns. m ∷ ns) (numbers_of rest)) o)) is
