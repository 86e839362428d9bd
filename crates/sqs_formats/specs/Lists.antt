-- Lists in a table whose items are no tables; each item has a place, as actor[0].backoff_s[1].
use Rattle.std.specs.Prelude.{ℕ, nat_le, List, [], ◌∷◌, ◌++◌, length, Option, Some, None, Ok, ok_or}
use Rattle.toml.specs.Data.{Data}
use Rattle.sim_clock.specs.declared.refusal.Refusal.TheVariants.{OutOfRange, TooMany}
use Rattle.sqs_formats.specs.Reading.{needs, ◌>>=◌}
use Rattle.sqs_formats.specs.Keys.{Says, KeyType, fault_at, integer, item_place, list}

-- a list of a number of items, from the one to the other
unfoldable pub sized_list : ℕ → ℕ → KeyType (List Data)
sized_list least most place d = do
  ds ← list place d
  enough ← needs (nat_le least (length ds)) (fault_at OutOfRange place) ds
  needs (nat_le (length ds) most) (fault_at TooMany place) ds

-- the items of a list after some that were read, at which the type of an item may look
abbrev pub items : {X : Type 0} → (List X → KeyType X) → List ℕ → List X → List Data → Says (List X)
items type place before [] = Ok before
items type place before (d ∷ ds) = do
  x ← type before (item_place place (length before)) d
  items type place (before ++ (x ∷ [])) ds

-- a list of a number of items; the type of an item may look at this number and at the items before it
unfoldable pub list_of : {X : Type 0} → ℕ → ℕ → (ℕ → List X → KeyType X) → KeyType (List X)
list_of least most type place d = do
  ds ← sized_list least most place d
  items (type (length ds)) place [] ds

-- a list of integers between two numbers
abbrev pub integers : ℕ → ℕ → ℕ → ℕ → KeyType (List ℕ)
integers least most low high = list_of least most (λ count before. integer low high)

-- the two items of a list that has no other
abbrev pub both_of : List Data → Option (Data × Data)
both_of [] = None
both_of (d ∷ []) = None
both_of (d ∷ e ∷ []) = Some (d, e)
both_of (d ∷ e ∷ f ∷ ds) = None

-- a list of two items
unfoldable pub pair : KeyType (Data × Data)
pair place d = do
  ds ← list place d
  ok_or (both_of ds) (fault_at OutOfRange place)
