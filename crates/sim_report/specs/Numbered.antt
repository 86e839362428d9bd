-- Numbers by flags, and numbers with values by slots.
use Rattle.std.specs.Prelude.{ℕ, ⊤, ◌+◌, ◌^◌, ◌≡◌, ◌<◌, ◌≤◌, Bool, Option, Some, None, cond, length, List, All, [], ◌∷◌, ◌++◌}
use Rattle.std.specs.Map.{keys_of}

-- the numbers whose flags are set, where the first flag is that of a number
abbrev pub marked : ℕ → List Bool → List ℕ
marked n [] = []
marked n (flag ∷ flags) = cond flag (n ∷ marked (n + 1) flags) (marked (n + 1) flags)

-- numbers of which the low ones, below the first flag, are a list, and the others have flags
abbrev pub numbered : List ℕ → ℕ → List Bool → List ℕ
numbered low first flags = low ++ marked first flags

-- they are so many, and the low ones are below the first flag
pub record AreNumbered (low : List ℕ) (first : ℕ) (flags : List Bool) (count : ℕ) : Type 0 where
  pub counted : count ≡ length (numbered low first flags)
  pub below : All (λ n. n < first) low

-- the numbers whose slots have values, with these, where the first slot is that of a number
abbrev pub placed : ℕ → List (Option ℕ) → List (ℕ × ℕ)
placed n [] = []
placed n (None ∷ slots) = placed (n + 1) slots
placed n (Some value ∷ slots) = (n, value) ∷ placed (n + 1) slots

-- numbers with values, of which the low ones, below the first slot, are a list, and the others have slots
abbrev pub tabled : List (ℕ × ℕ) → ℕ → List (Option ℕ) → List (ℕ × ℕ)
tabled low first slots = low ++ placed first slots

-- the first slot has a value, if there are slots
abbrev pub BeginsFilled : List (Option ℕ) → Type 0
BeginsFilled (None ∷ slots) = ⊥
BeginsFilled slots = ⊤

-- the low ones are below the first slot, which has a value, and each slot is that of a number of 64 bits
pub record AreTabled (low : List (ℕ × ℕ)) (first : ℕ) (slots : List (Option ℕ)) : Type 0 where
  pub below : All (λ n. n < first) (keys_of low)
  pub filled : BeginsFilled slots
  pub fits : first + length slots ≤ 2 ^ 64
