-- Lists read by `get_elem?`.
use Rattle.std.proofs.Common.{◌≡◌, ℕ, zero, suc, ◌<◌, List, [], ◌∷◌, length, get_or, sym, refl, ◌∙◌, arith}
use mathlib.Core.Option.{some, some-injective, some-ne-none}
use lib.ListN.{get_elem?}

module _ {A : Type 0} where
  -- an index that has an element is within the list
  pub within : (l : List A) (i : ℕ) (a : A) → get_elem? l i ≡ some a → i < length l
  within [] i a e = absurd (some-ne-none a (sym e))
  within (x ∷ xs) zero a e = omega arith
  within (x ∷ xs) (suc i) a e = let h = within xs i a e in omega arith

  -- the element at an index is what is read there
  pub read : (l : List A) (i : ℕ) (a d : A) → get_elem? l i ≡ some a → get_or l i d ≡ a
  read [] i a d e = absurd (some-ne-none a (sym e))
  read (x ∷ xs) zero a d e = some-injective x a e
  read (x ∷ xs) (suc i) a d e = read xs i a d e

  -- an index within the list has an element
  pub there : (l : List A) (i : ℕ) (d : A) → i < length l → get_elem? l i ≡ some (get_or l i d)
  there [] i d h = absurd (omega arith)
  there (x ∷ xs) zero d h = refl
  there (x ∷ xs) (suc i) d h = there xs i d (omega arith)

  -- an index has one element
  pub one : (l : List A) (i : ℕ) (a b : A) → get_elem? l i ≡ some a → get_elem? l i ≡ some b → a ≡ b
  one l i a b e f = some-injective a b (sym e ∙ f)
