-- What a list has among its elements.
use Rattle.std.proofs.Common.{suc, List, ◌∷◌, arith}
use Rattle.std.specs.Prelude.{Contains}

-- what is among the later ones is among all
pub contains_next : {X : Type 0} (x y : X) (xs : List X) → Contains xs x → Contains (y ∷ xs) x
contains_next x y xs h = (suc h.0, omega (arith, h.1), h.2)
