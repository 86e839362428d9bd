-- Orderings of numbers and of keys.
use Rattle.std.proofs.Common.{Equal, Greater, Less, ap, arith, inl, inr, refl}
use Rattle.std.specs.Ordering.{is_eq, is_lt, nat_cmp, ordering_reverse, ordering_then}
use Rattle.std.specs.Prelude.{false, true, ℕ, ◌≡◌, ◌≤◌, ◌⊎◌}
use Rattle.std.specs.declared.cmp.Ordering.{Ordering}
use Rattle.sim_clock.specs.declared.key.Key.{Key}
use Rattle.sim_clock.specs.Order.{key_cmp, key_cmp_total, same_key}

-- the first of two orderings that together are not less is not less
pub then_not_less : (o p : Ordering) → is_lt (ordering_then o p) ≡ false → is_lt o ≡ false
then_not_less Less p h = h
then_not_less Equal p h = refl
then_not_less Greater p h = refl

pub nat_not_less : (x y : ℕ) → is_lt (nat_cmp x y) ≡ false → y ≤ x
nat_not_less x y h = grind (arith)

pub then_less : (o p : Ordering) → is_lt (ordering_then o p) ≡ true → (is_lt o ≡ true) ⊎ (o ≡ Equal)
then_less Less p h = inl refl
then_less Equal p h = inr refl
then_less Greater p h = cc

pub nat_less_or_same : (x y : ℕ) → (is_lt (nat_cmp x y) ≡ true) ⊎ (nat_cmp x y ≡ Equal) → x ≤ y
nat_less_or_same x y (inl h) = grind (arith)
nat_less_or_same x y (inr h) = grind (arith)

pub nat_tied : (x y : ℕ) → is_eq (nat_cmp x y) ≡ true → x ≡ y
nat_tied x y h = grind (arith)

pub less_not_back : (o : Ordering) → is_lt o ≡ true → is_lt (ordering_reverse o) ≡ false
less_not_back Less h = refl
less_not_back Equal h = refl
less_not_back Greater h = cc

pub tied_self : (o : Ordering) → o ≡ ordering_reverse o → is_eq o ≡ true
tied_self Less h = cc
tied_self Equal h = refl
tied_self Greater h = cc

-- a key that is not less than another is of no earlier moment
pub key_not_less : (a b : Key) → is_lt (key_cmp a b) ≡ false → b.at ≤ a.at
key_not_less a b h = nat_not_less a.at b.at (then_not_less _ _ h)

pub key_less : (a b : Key) → is_lt (key_cmp a b) ≡ true → a.at ≤ b.at
key_less a b h = nat_less_or_same a.at b.at (then_less _ _ h)

pub key_self : (k : Key) → same_key k k ≡ true
key_self k = tied_self (key_cmp k k) (key_cmp_total.antisymm k k)
