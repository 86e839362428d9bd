-- Sums over lists, and what stays true of a list without one of it, with a change of one, or with one more.
use Rattle.std.specs.Prelude.{Bool, List, [], cond, false, filter, length, nat_le, true, ℕ, ◌+◌, ◌<◌, ◌∷◌, ◌≡◌, ◌≤◌}
use Rattle.std.proofs.Common.{arith, refl}
use Rattle.std.proofs.lemmas.Bool.{le-leb, leb-true, lt-leb}
use Rattle.sim_clock.specs.declared.key.Key.{Key}
use Rattle.sim_engine.specs.Members.{count_due}

-- 1 for a moment that is not past another, else 0
unfoldable pub tick : ℕ → ℕ → ℕ
tick e at = cond (nat_le at e) 1 0

pub tick_past : (e at : ℕ) → e < at → tick e at ≡ 0
unfolding tick
tick_past e at h = rw (lt-leb at e h) refl

pub tick_now : (e at : ℕ) → at ≤ e → tick e at ≡ 1
unfolding tick
tick_now e at h = rw (le-leb at e h) refl

tick_less_by : (e a b : ℕ) (x y : Bool) → nat_le a e ≡ x → nat_le b e ≡ y → a ≤ b → cond y 1 0 ≤ cond x 1 0
tick_less_by e a b true true h k l = omega arith
tick_less_by e a b true false h k l = omega arith
tick_less_by e a b false false h k l = omega arith
tick_less_by e a b false true h k l = let t : b ≤ e = leb-true b e k in let n : nat_le a e ≡ true = le-leb a e (omega arith) in cc

pub tick_less : (e a b : ℕ) → a ≤ b → tick e b ≤ tick e a
unfolding tick
tick_less e a b l = tick_less_by e a b _ _ refl refl l

-- a sum over a list
abbrev pub total : {A : Type 0} → (A → ℕ) → List A → ℕ
total f [] = 0
total f (x ∷ xs) = f x + total f xs

-- how many of some keys are due by a moment is a sum
pub count_is : (e : ℕ) (keys : List Key) → count_due e keys ≡ total (λ k. tick e k.at) keys
unfolding tick
count_is e [] = refl
count_is e (k ∷ ks) =
    elim (nat_le k.at e) as (λ b. length (cond b (k ∷ filter (λ x. nat_le x.at e) ks) (filter (λ x. nat_le x.at e) ks)) ≡ cond b 1 0 + total (λ x. cond (nat_le x.at e) 1 0) ks) [
      | true ↦ omega (arith, count_is e ks)
      | false ↦ omega (arith, count_is e ks)
    ]
