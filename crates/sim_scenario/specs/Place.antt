-- The text before a key in its place.
use Rattle.std.specs.Prelude.{ℕ, ◌++◌, codes, List, [], Option, Some, None}
use Rattle.std.specs.Borrow.{Bor}
use Rattle.sqs_formats.specs.Keys.{item_place}

-- nothing at the top table, and the place of an item and a dot at the item's table
abbrev pub before_key : Option (Bor (List ℕ) × ℕ) → List ℕ
before_key None = []
before_key (Some item) = item_place item.0.now item.1 ++ codes "."
