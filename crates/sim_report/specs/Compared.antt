-- Lines of a comparison.
use Rattle.std.specs.Prelude.{ℕ, codes, List, [], ◌∷◌, cond}
use Rattle.sqs_formats.specs.Report.{Column}
use Rattle.sqs_formats.specs.Comparison.{is_new, only_in_b}

-- the line of a queue that is in one report only: how often it is in each, and the difference
abbrev pub only_line : List ℕ → List (List ℕ) → List (List ℕ)
only_line queue counts = codes "compare" ∷ queue ∷ codes "only" ∷ counts

-- the lines of a queue of the second report that the first one may lack
abbrev pub new_lines : List Column → Column → List (List (List ℕ))
new_lines first second = cond (is_new first second) (only_in_b second.0 ∷ []) []
