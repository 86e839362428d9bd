-- The value of some digits.
use Rattle.std.proofs.Common.{◌≡◌, ℕ, ◌+◌, ◌*◌, ◌-◌, ◌<◌, ◌≤◌, List, [], ◌∷◌, fold, refl, arith, false, None, nat_le}
use Rattle.std.proofs.lemmas.Bool.Decides.{nat_tests}
use Rattle.sqs_formats.specs.Script.{digits_value, only_if}

abbrev pub value_from : ℕ → List ℕ → ℕ
value_from n bs = fold (λ n b. 10 * n + (b - 48)) n bs

-- more digits make it no less
grows : (n : ℕ) (bs : List ℕ) → n ≤ value_from n bs
grows n [] = omega arith
grows n (b ∷ bs) = omega (arith, grows (10 * n + (b - 48)) bs)

pub too_great : (s : List ℕ) (n : ℕ) (rest : List ℕ) → digits_value s ≡ value_from n rest → 4294967295 < n
    → None ≡ only_if (nat_le (digits_value s) 4294967295) (digits_value s)
too_great s n rest e h =
    let more = grows n rest in
    let no : nat_le (digits_value s) 4294967295 ≡ false = grind (arith, nat_tests) in
    rw no refl
