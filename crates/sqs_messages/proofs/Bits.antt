-- A host among a set of hosts, by bits.
use Rattle.std.proofs.Common.{◌≡◌, ℕ, ◌/◌, ◌%◌, ◌^◌, ◌≤◌, true, false, not, bit_and, inl, inr, arith, sym, ◌∙◌}
use Rattle.std.specs.Prelude.{◌==◌, ◌≢◌}
use Rattle.std.proofs.lemmas.Bool.{cases_eq}
use Rattle.std.proofs.lemmas.Bool.Decides.{nat_tests}
use Rattle.std.proofs.lemmas.Nat.{and_comm, and_le_r, and_mask, bit_set_by_shift}
use Rattle.sqs_model.specs.Available.{has_host}

low_bit : (n : ℕ) → bit_and n 1 ≡ n % 2
low_bit n = and_mask n 1

pub host_bit : (set h : ℕ) → not (bit_and (2 ^ h) set == 0) ≡ has_host set h
host_bit set h =
    elim (cases_eq (bit_and set (2 ^ h)) 0) [
      | inl e ↦
          let none : bit_and (2 ^ h) set ≡ 0 = and_comm (2 ^ h) set ∙ e in
          let no : (set / 2 ^ h) % 2 ≢ 1 = λ k. (bit_set_by_shift set h).0 (low_bit (set / 2 ^ h) ∙ k) e in
          let left : not (bit_and (2 ^ h) set == 0) ≡ false = grind (arith, nat_tests, none) in
          let right : ((set / 2 ^ h) % 2 == 1) ≡ false = grind (arith, nat_tests, no) in
          left ∙ sym right
      | inr n ↦
          let some : bit_and (2 ^ h) set ≢ 0 = λ e. n (and_comm set (2 ^ h) ∙ e) in
          let yes : (set / 2 ^ h) % 2 ≡ 1 = sym (low_bit (set / 2 ^ h)) ∙ (bit_set_by_shift set h).1 n in
          let left : not (bit_and (2 ^ h) set == 0) ≡ true = grind (arith, nat_tests, some) in
          let right : ((set / 2 ^ h) % 2 == 1) ≡ true = grind (arith, nat_tests, yes) in
          left ∙ sym right
    ]

pub no_meets : (set : ℕ) → not (bit_and 0 set == 0) ≡ false
no_meets set = let l : bit_and set 0 ≤ 0 = and_le_r set 0 in let z : bit_and 0 set ≡ 0 = omega (arith, and_comm 0 set, l) in grind (arith, nat_tests, z)
