-- A plain text that parses is the decimal of its number.
use Rattle.std.proofs.Common.{◌≡◌, ℕ, zero, suc, ◌<◌, ◌^◌, true, false, List, length, slice_index, get_or, Result, Ok, refl, sym, arith, lit<, ◌==◌}
use Rattle.std.specs.Fmt.{decimal}
use Rattle.std.specs.Str.Parse.{ParsesUnsigned, IsNumeral, AllDigits, digits_value, without_leading_plus}
use Rattle.std.proofs.lemmas.Bool.Decides.{nat_tests}
use Rattle.std.proofs.lemmas.Result.{OkIff-at_ok}
use Rattle.std.proofs.lemmas.Fmt.{decimal-digits_value, decimal_digit, first_decimal, decimal_nonempty}
use Rattle.std.proofs.lemmas.Str.Parse.{IsNumeralModel}
use Rattle.sqs_message.specs.Ids.{is_plain}

own : IsNumeralModel (AllDigits 10) (digits_value 10)
own = record { to = λ ds p. p; from = λ ds p. p; same = λ ds p. refl }

plain_no_plus : (bs : List ℕ) → is_plain bs ≡ true → without_leading_plus bs ≡ bs
plain_no_plus bs p =
    let other : (slice_index bs 0 == 43) ≡ false = grind (arith, nat_tests) in
    rw other refl

plain_lead : (bs : List ℕ) → is_plain bs ≡ true → get_or bs 0 0 ≡ 48 → length bs ≡ 1
plain_lead bs p e = grind (arith, nat_tests)

-- a plain text that parses is the number's decimal
pub plain_decimal : {E : Type 0} (bs : List ℕ) (n : ℕ) (r : Result ℕ E) → is_plain bs ≡ true → ParsesUnsigned 64 10 bs r → r ≡ Ok n → bs ≡ decimal n
plain_decimal bs n r p h e =
    let whole = plain_no_plus bs p in
    let found = OkIff-at_ok r _ _ n h e in
    let numeral : IsNumeral 10 bs = rw whole at found.0.0 in
    let small : digits_value 10 bs < 2 ^ 64 = rw whole at found.0.1 in
    let value : n ≡ digits_value 10 bs = rw whole at found.1 in
    rw value (sym (decimal-digits_value own bs numeral.1 numeral.0 (plain_lead bs p) small))

plain_from : (bs : List ℕ) → 0 < length bs → 48 < get_or bs 0 0 → is_plain bs ≡ true
plain_from bs some first = grind (arith, nat_tests)

-- the decimal of a number is plain
pub decimal_plain : (bs : List ℕ) (n : ℕ) → n < 2 ^ 64 → bs ≡ decimal n → is_plain bs ≡ true
decimal_plain bs zero h e = rw (e, decimal_digit 0 (lit< tt)) refl
decimal_plain bs (suc n) h e =
    let first = first_decimal (suc n) (omega arith) h in
    let some = decimal_nonempty (suc n) h in
    rw e (plain_from (decimal (suc n)) some first)
