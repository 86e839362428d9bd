-- The comparison of two reports.
use Rattle.std.specs.Prelude.{ℕ, ◌-◌, nat_le, not, Bool, codes, if◌then◌else◌, List, [], ◌∷◌, ◌++◌, map, flat_map, filter, find, zip, Option, Some, None, is_some}
use Rattle.std.specs.Fmt.{decimal}
use Rattle.std.specs.Str.{bytes_eq}
use Rattle.sqs_formats.specs.Rows.{lines, text_if}
use Rattle.sqs_formats.specs.Report.{Column, columns}

-- b less a, in decimal
abbrev pub difference : ℕ → ℕ → List ℕ
difference a b = if nat_le a b then decimal (b - a) else codes "-" ++ decimal (a - b)

-- the same, empty if either is absent
abbrev pub difference_if : Option ℕ → Option ℕ → List ℕ
difference_if (Some a) (Some b) = difference a b
difference_if _ _ = []

-- the line of a column
abbrev pub column_line : List ℕ → List ℕ × (Option ℕ × Option ℕ) → List (List ℕ)
column_line queue c =
    codes "compare" ∷ queue ∷ c.0 ∷ text_if decimal c.1.0 ∷ text_if decimal c.1.1 ∷ difference_if c.1.0 c.1.1 ∷ []

-- the line of a queue that the second report lacks
abbrev pub only_in_a : List ℕ → List (List ℕ)
only_in_a queue = codes "compare" ∷ queue ∷ codes "only" ∷ codes "1" ∷ codes "0" ∷ codes "-1" ∷ []

-- the line of a queue that the first one lacks
abbrev pub only_in_b : List ℕ → List (List ℕ)
only_in_b queue = codes "compare" ∷ queue ∷ codes "only" ∷ codes "0" ∷ codes "1" ∷ codes "1" ∷ []

-- the columns of a queue
abbrev pub named : List ℕ → List Column → Option Column
named queue report = find (λ c. bytes_eq c.0 queue) report

-- the lines of a queue
abbrev pub compared : Column → Option Column → List (List (List ℕ))
compared a None = only_in_a a.0 ∷ []
compared a (Some b) = map (column_line a.0) (zip columns (zip a.1 b.1))

-- whether a report lacks a queue
abbrev pub is_new : List Column → Column → Bool
is_new a c = not (is_some (named c.0 a))

-- the comparison: the queues of the first report in order, then those that it lacks
unfoldable pub comparison_records : List Column → List Column → List (List (List ℕ))
comparison_records a b =
    flat_map (λ c. compared c (named c.0 b)) a ++ map (λ c. only_in_b c.0) (filter (is_new a) b)

-- the text of a comparison
abbrev pub comparison : List Column → List Column → List ℕ
comparison a b = lines (comparison_records a b)
