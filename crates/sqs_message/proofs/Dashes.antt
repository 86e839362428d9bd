-- The first dash of a text.
use Rattle.std.proofs.Common.{◌≡◌, ◌≢◌, ℕ, suc, ◌+◌, ◌<◌, ◌^◌, ◌==◌, Bool, true, false, cond, not, Bor, List, [], ◌∷◌, ◌++◌, length, Option, Some, None, IsSomeAnd, refl, arith, MatchOption}
use Rattle.std.specs.List.{position_or_len, before_first, after_first}
use Rattle.std.specs.Fmt.{decimal}
use Rattle.std.specs.Char.{digit_value}
use Rattle.std.specs.Str.Parse.{AllDigits}
use Rattle.std.proofs.lemmas.Bool.Decides.{nat_tests}
use Rattle.std.proofs.lemmas.Fmt.{decimal_is_IsNumeral}
use Rattle.std.proofs.Math.Seq.{take-append_seam, drop-append-add}
use Rattle.sqs_message.specs.Ids.{HasNoDash}

abbrev pub dash : ℕ → Bool
dash b = b == 45

-- a text with a dash: what stands before the first, and after it
position_within : (front back : List ℕ) → position_or_len dash (front ++ 45 ∷ back) < length (front ++ 45 ∷ back)
position_within [] back = omega arith
position_within (b ∷ front) back =
    let more = position_within front back in
    elim (dash b) as (λ d. cond (not d) (1 + position_or_len dash (front ++ 45 ∷ back)) 0 < suc (length (front ++ 45 ∷ back))) [ true ↦ omega arith | false ↦ omega arith ]

pub first_is : (front back : List ℕ) → HasNoDash front → position_or_len dash (front ++ 45 ∷ back) ≡ length front
first_is [] back h = refl
first_is (b ∷ front) back h =
    let other : (b == 45) ≡ false = grind (arith, nat_tests) in
    let more = first_is front back h.1 in
    rw other (omega arith)

digit_no_dash : (b : ℕ) → digit_value b < 10 → b ≢ 45
digit_no_dash b h e = let bad : digit_value 45 < 10 = rw e at h in absurd (omega arith)

digits_no_dash : (bs : List ℕ) → AllDigits 10 bs → HasNoDash bs
digits_no_dash [] h = tt
digits_no_dash (b ∷ bs) h = (digit_no_dash b h.0, digits_no_dash bs h.1)

pub decimal_no_dash : (n : ℕ) → n < 2 ^ 64 → HasNoDash (decimal n)
decimal_no_dash n h = digits_no_dash _ (decimal_is_IsNumeral n h).0.1

-- what `split_once` tells
abbrev pub Split : List ℕ → Bor (List ℕ) × Bor (List ℕ) → Type 0
Split bs x = (x.0.now ≡ before_first dash bs) × (x.1.now ≡ after_first dash bs) × (position_or_len dash bs < length bs)

pub parts_by : (bs : List ℕ) (r : Option (Bor (List ℕ) × Bor (List ℕ))) → MatchOption r (position_or_len dash bs ≡ length bs) (Split bs)
    → (front back : List ℕ) → HasNoDash front → bs ≡ front ++ 45 ∷ back → IsSomeAnd r (λ p. (p.0.now ≡ front) × (p.1.now ≡ back))
parts_by bs None h front back plain e = let w = rw (← e) at (position_within front back) in absurd (omega (arith, h, w))
parts_by bs (Some x) h front back plain e =
    let place = rw (← e) at (first_is front back plain) in
    (rw (h.0, place, e) (take-append_seam front (45 ∷ back)), rw (h.1, place, e) (drop-append-add front (45 ∷ back) 1))
