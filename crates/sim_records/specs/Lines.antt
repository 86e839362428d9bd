-- What a clause reads of lines that are being made.
use Rattle.std.specs.Prelude.{◌≡◌, ℕ, ◌++◌, List, [], ◌∷◌, Bool, not, false, Option, None, IfSome, codes, get_or}
use Rattle.std.specs.Fmt.{decimal}
use Rattle.std.specs.List.{list_all}
use Rattle.csv.specs.Writing.{comma, default_writer, field_text, needs_quotes}
use Rattle.sqs_formats.specs.Rows.{name_at}

-- a field that needs no quotes
abbrev pub IsPlain : List ℕ → Type 0
IsPlain f = needs_quotes default_writer f ≡ false

-- whether none of these fields needs quotes
abbrev pub none_quoted : List (List ℕ) → Bool
none_quoted fs = list_all (λ f. not (needs_quotes default_writer f)) fs

-- the name of this number, which needs no quotes
abbrev pub IsPlainName : List (List ℕ) → ℕ → List ℕ → Type 0
IsPlainName names n w = (w ≡ name_at names n) × IsPlain w

-- what the list has for a number, if anything, is the name of that number, which needs no quotes
abbrev pub AreWordsOf : List (List ℕ) → List (Option (List ℕ)) → Type 0
AreWordsOf names words = (n : ℕ) → IfSome (get_or words n None) (IsPlainName names n)

-- two numbers with a dash before each, as they stand in an id
abbrev pub dashed : ℕ → ℕ → List ℕ
dashed site number = codes "-" ++ (decimal site ++ (codes "-" ++ decimal number))

-- the end of a line with one more field before it, in quotes if it needs them, and a comma before that
abbrev pub with_field : List ℕ → List ℕ → List ℕ
with_field rest f = comma ∷ (field_text default_writer f ++ rest)

-- the same with more fields
abbrev pub with_fields : List ℕ → List (List ℕ) → List ℕ
with_fields rest [] = rest
with_fields rest (f ∷ fs) = with_field (with_fields rest fs) f
