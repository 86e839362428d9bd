-- Parts of `&&` and `||`.
use Rattle.std.specs.Prelude.{Bool, false, true, ◌&&◌, ◌||◌, ◌≡◌}
use Rattle.std.proofs.lemmas.Bool.{and_parts, or_parts}

pub or_first : (a b : Bool) → (a || b) ≡ false → a ≡ false
or_first a b h = (or_parts a b h).0

pub or_second : (a b : Bool) → (a || b) ≡ false → b ≡ false
or_second a b h = (or_parts a b h).1

pub and_first : (a b : Bool) → (a && b) ≡ true → a ≡ true
and_first a b h = (and_parts a b h).0

pub and_second : (a b : Bool) → (a && b) ≡ true → b ≡ true
and_second a b h = (and_parts a b h).1
