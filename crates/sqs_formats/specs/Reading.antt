-- Reading goes on part by part, and stops at the first fault.
use Rattle.std.specs.Prelude.{Bool, true, false, Result, Ok, Err}

-- one part of a text, and then the rest of it, which may look at what the part says
unfoldable pub and_then : {F X Y : Type 0} → Result X F → (X → Result Y F) → Result Y F
and_then (Ok x) rest = rest x
and_then (Err f) rest = Err f

infixl 10 ◌>>=◌
abbrev pub ◌>>=◌ : {F X Y : Type 0} → Result X F → (X → Result Y F) → Result Y F
part >>= rest = and_then part rest

-- a value that is right only if the test holds
abbrev pub needs : {F X : Type 0} → Bool → F → X → Result X F
needs true f x = Ok x
needs false f x = Err f
