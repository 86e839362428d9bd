-- Texts that are written in parts.
use Rattle.std.specs.Prelude.{List, ℕ, ◌++◌, ◌≡◌}
use Rattle.sqs_formats.specs.Rows.{lines}

-- the lines of some records and others are those of the first, and then those of the others
abbrev pub LinesJoin : Type 0
LinesJoin = (first others : List (List (List ℕ))) → lines (first ++ others) ≡ lines first ++ lines others
