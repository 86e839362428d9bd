-- The first of a list that a test picks: the list without it, and with a change of it.
use Rattle.std.specs.Prelude.{Bool, true, false, List, [], ◌∷◌, if◌then◌else◌}

-- a list without the first that a test picks
abbrev pub without : {A : Type 0} → (A → Bool) → List A → List A
without picks [] = []
without picks (x ∷ xs) = if picks x then xs else x ∷ without picks xs

-- a list with a change of the first that a test picks
abbrev pub changed : {A : Type 0} → (A → Bool) → (A → A) → List A → List A
changed picks change [] = []
changed picks change (x ∷ xs) = if picks x then change x ∷ xs else x ∷ changed picks change xs

-- whether a list has nothing in it
abbrev pub is_empty : {A : Type 0} → List A → Bool
is_empty [] = true
is_empty (x ∷ xs) = false

-- a list with one more in front, if that one is kept
abbrev pub kept_when : {A : Type 0} → Bool → A → List A → List A
kept_when true x xs = x ∷ xs
kept_when false x xs = xs
