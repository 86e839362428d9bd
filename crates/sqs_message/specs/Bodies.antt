-- Bodies of messages.
use Rattle.std.specs.Prelude.{Bool, List, [], false, length, take, true, ℕ, ◌&&◌, ◌++◌, ◌==◌, ◌||◌, ◌∷◌}
use Rattle.std.specs.Str.{bytes_eq}

-- whether bytes begin with {n}
abbrev pub has_mark : List ℕ → Bool
has_mark [] = false
has_mark (a ∷ []) = false
has_mark (a ∷ b ∷ []) = false
has_mark (a ∷ (b ∷ (c ∷ rest))) = a == 123 && b == 110 && c == 125

-- a body with each {n} replaced by a number's text
abbrev pub filled : List ℕ → List ℕ → List ℕ
filled n [] = []
filled n (a ∷ []) = a ∷ []
filled n (a ∷ b ∷ []) = a ∷ b ∷ []
filled n (a ∷ (b ∷ (c ∷ rest))) =
    elim (has_mark (a ∷ (b ∷ (c ∷ rest)))) as (λ _. List ℕ) [
      | true ↦ n ++ filled n rest
      | false ↦ a ∷ filled n (b ∷ (c ∷ rest))
    ]

-- whether a body contains a text
abbrev pub contains : List ℕ → List ℕ → Bool
contains part [] = bytes_eq [] part
contains part (a ∷ rest) = bytes_eq part (take (length part) (a ∷ rest)) || contains part rest
