-- What a word of 32 bits gives of a span lies within it.
use Rattle.std.proofs.Common.{ℕ, ◌*◌, ◌/◌, ◌<◌, ◌^◌, arith}
use Rattle.std.proofs.Math.Nat.{mul-lt-mul_of_pos_right}

pub share_within : (word span : ℕ) → 0 < span → word < 2 ^ 32 → word * span / 2 ^ 32 < span
share_within word span some fits =
    let less : word * span < 2 ^ 32 * span = mul-lt-mul_of_pos_right fits some in
    omega arith
