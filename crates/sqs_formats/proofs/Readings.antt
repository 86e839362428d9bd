-- What is known of the parts of a reading that went well, and readings of lists.
use Rattle.std.proofs.Common.{◌≡◌, Bool, true, false, List, [], ◌∷◌, ◌++◌, Result, Ok, Err, refl, append_assoc}
use Rattle.sqs_formats.specs.Reading.{and_then, needs}

-- a reading that goes well has parts that go well
pub parts : {F X Y : Type 0} (part : Result X F) (rest : X → Result Y F) (y : Y) → and_then part rest ≡ Ok y → (x : X) × (part ≡ Ok x) × (rest x ≡ Ok y)
unfolding and_then
parts (Ok x) rest y e = (x, refl, e)
parts (Err f) rest y e = cc e

pub same_ok : {F X : Type 0} (x y : X) → (let r : Result X F = Ok x in r ≡ Ok y) → x ≡ y
same_ok x y e = cc e

-- a value that a test lets through
pub picked : {F X : Type 0} (b : Bool) (f : F) (x y : X) → needs b f x ≡ Ok y → (b ≡ true) × (x ≡ y)
picked true f x y e = (refl, cc e)
picked false f x y e = cc e

-- what was read before, and then the rest of a list
abbrev pub behind : {F X : Type 0} → List X → Result (List X) F → Result (List X) F
behind xs rest = and_then rest (λ ys. Ok (xs ++ ys))

pub behind_none : {F X : Type 0} (rest : Result (List X) F) → rest ≡ behind [] rest
unfolding and_then
behind_none (Ok ys) = refl
behind_none (Err f) = refl

pub behind_more : {F X : Type 0} (xs : List X) (x : X) (rest : Result (List X) F) → behind xs (and_then rest (λ ys. Ok (x ∷ ys))) ≡ behind (xs ++ (x ∷ [])) rest
unfolding and_then
behind_more xs x (Ok ys) = rw (append_assoc xs (x ∷ []) ys) refl
behind_more xs x (Err f) = refl
