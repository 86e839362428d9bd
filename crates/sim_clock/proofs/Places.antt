-- Insertion by place, and the least of a list in order.
use Rattle.std.proofs.Common.{◌≡◌, ℕ, ◌+◌, Bool, true, false, not, cond, List, [], ◌∷◌, Some, None, nat_lt, unwrap_or, refl, ap, if◌then◌else◌, length, ◌≤◌, arith}
use Rattle.std.specs.List.{position, position_or_len, insert}
use Rattle.std.specs.declared.cmp.Ordering.{Ordering}
use Rattle.std.specs.Ordering.{is_lt}
use Rattle.std.proofs.lemmas.Bool.{ltb-false}
use Rattle.std.proofs.lemmas.List.Sums.{prefix_len-le-length}
use Rattle.std.proofs.Math.Numerals.{one-add}
use Rattle.sim_clock.specs.Order.{inserted_by, least_by, lesser_by, IsInOrder, IsBefore}

unwrapped_by : {A : Type 0} (p : A → Bool) (xs : List A) (b : Bool) → nat_lt (position_or_len p xs) (length xs) ≡ b → unwrap_or (cond b (Some (position_or_len p xs)) None) (length xs) ≡ position_or_len p xs
unwrapped_by p xs true e = refl
unwrapped_by p xs false e =
    let past : length xs ≤ position_or_len p xs = ltb-false _ _ e in
    let within : position_or_len p xs ≤ length xs = prefix_len-le-length (λ x. not (p x)) xs in
    omega arith

-- the first that a test picks, or else the end
pub position_unwrapped : {A : Type 0} (p : A → Bool) (xs : List A) → unwrap_or (position p xs) (length xs) ≡ position_or_len p xs
position_unwrapped p xs = unwrapped_by p xs _ refl

pub place_within : {A : Type 0} (p : A → Bool) (xs : List A) (i : ℕ) → i ≡ position_or_len p xs → i ≤ length xs
place_within p xs i e = rw e (prefix_len-le-length (λ x. not (p x)) xs)

module _ {A : Type 0} (R : A → A → Ordering) where
  least_first : (x : A) (ys : List A) → IsBefore R x ys → IsInOrder R ys → lesser_by R (Some x) (least_by R ys) ≡ Some x
  least_first x [] b o = refl
  least_first x (y ∷ ys) b o = rw (least_first y ys o.0 o.1, b) refl

  -- the least of a list in order is its first
  pub least_in_order : (x : A) (ys : List A) → IsInOrder R (x ∷ ys) → least_by R (x ∷ ys) ≡ Some x
  least_in_order x ys o = least_first x ys o.0 o.1
