-- How long a producer's body is.
use Rattle.std.proofs.Common.{◌≡◌, ℕ, ◌-◌, ◌<◌, ◌&&◌, ◌==◌, Bool, true, false, List, [], ◌∷◌, ◌++◌, length, length-append, nat_le, refl, arith}
use Rattle.std.specs.Fmt.{decimal}
use Rattle.std.proofs.lemmas.Fmt.{decimal_nonempty}
use Rattle.std.proofs.lemmas.Bool.Decides.{nat_tests}
use Rattle.sqs_message.specs.Bodies.{filled}
use Rattle.sqs_formats.specs.Actors.{is_producer_body}

-- a body with a byte has one when it is filled
some_by : (t : Bool) (n fs other : List ℕ) (x : ℕ) → 0 < length n → 0 < length (elim t as (λ _. List ℕ) [ true ↦ n ++ fs | false ↦ x ∷ other ])
some_by true n fs other x h = omega (arith, length-append n fs)
some_by false n fs other x h = omega arith

filled_some : (n s : List ℕ) → 0 < length n → 0 < length s → 0 < length (filled n s)
filled_some n [] h k = absurd (omega arith)
filled_some n (a ∷ []) h k = omega arith
filled_some n (a ∷ b ∷ []) h k = omega arith
filled_some n (a ∷ (b ∷ (c ∷ rest))) h k = some_by (a == 123 && b == 110 && c == 125) n (filled n rest) (filled n (b ∷ (c ∷ rest))) a h

-- the test of a body
pub body_none : (count : ℕ) (s : List ℕ) → length s ≡ 0 → is_producer_body count s ≡ false
body_none count [] h = refl
body_none count (a ∷ s) h = absurd (omega arith)

pub body_some : (count : ℕ) (s : List ℕ) → 0 < length s → is_producer_body count s ≡ nat_le (length (filled (decimal (count - 1)) s)) 1024
body_some count s h =
    let some = filled_some (decimal 0) s (decimal_nonempty 0 (omega arith)) h in
    let yes : nat_le 1 (length (filled (decimal 0) s)) ≡ true = grind (arith, nat_tests) in
    rw yes refl
