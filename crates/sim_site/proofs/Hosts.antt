-- The sets of hosts that short polls sample, by a table of all of them.
use Rattle.std.proofs.Common.{◌≡◌, ℕ, ◌+◌, ◌<◌, ◌≤◌, ◌^◌, ◌%◌, Bool, true, false, nat_lt, ◌||◌, arith, refl, sym, ap, ◌∙◌}
use Rattle.std.proofs.lemmas.Bool.{agree_below, agree_below_at, ltb-true}
use Rattle.std.proofs.lemmas.List.FromFn.{sum_by-map-range_with_len_more}
use Rattle.std.proofs.lemmas.Bool.Decides.{nat_tests}
use Rattle.sqs_model.specs.Acts.{hosts_from}

-- a test that is met by each number below one
abbrev all_below : ℕ → (ℕ → Bool) → Bool
all_below n p = agree_below p (λ _. true) n

at_below : (n : ℕ) (p : ℕ → Bool) (k : ℕ) → k < n → all_below n p ≡ true → p k ≡ true
at_below n p k l h = agree_below_at p (λ _. true) n k h l

abbrev fits_in : ℕ → ℕ → ℕ → Bool
fits_in h s t = nat_lt (hosts_from h s t) 65536

table : all_below 17 (λ h. all_below 17 (λ s. all_below h (λ t. nat_lt h s || fits_in h s t))) ≡ true
table = refl

pub hosts_fit : (h s t : ℕ) → h ≤ 16 → s ≤ h → t < h → hosts_from h s t < 65536
hosts_fit h s t few sampled start =
    let a = at_below 17 (λ i. all_below 17 (λ j. all_below i (λ k. nat_lt i j || fits_in i j k))) h (omega arith) table in
    let b = at_below 17 (λ j. all_below h (λ k. nat_lt h j || fits_in h j k)) s (omega arith) a in
    let d = at_below h (λ k. nat_lt h s || fits_in h s k) t start b in
    let e : nat_lt h s ≡ false = grind (arith, nat_tests) in
    ltb-true _ _ (ap (λ x. x || fits_in h s t) (sym e) ∙ d)

pub host_fits : (x : ℕ) → x < 16 → 2 ^ x ≤ 32768
host_fits x l =
    let a = at_below 16 (λ k. nat_lt (2 ^ k) 32769) x l refl in
    let b : 2 ^ x < 32769 = ltb-true _ _ a in omega arith

pub hosts_more : (h s t : ℕ) → hosts_from h (s + 1) t ≡ hosts_from h s t + 2 ^ ((t + s) % h)
hosts_more h s t = sum_by-map-range_with_len_more (λ x. x) (λ i. 2 ^ ((t + i) % h)) 0 s s (omega arith)
