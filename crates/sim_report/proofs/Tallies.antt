-- The running counts of a queue keep to the definitions of the columns.
use Rattle.std.proofs.Common.{◌≡◌, ◌==◌, ℕ, suc, zero, ◌+◌, ◌<◌, max, Bool, true, false, cond, Option, Some, None, List, [], ◌∷◌, ◌++◌, length, map, filter, filter_map, set, get_or, refl, sym, ap, ◌∙◌, arith}
use Rattle.std.proofs.lemmas.Grind.{common_steps}
use Rattle.std.proofs.lemmas.List.{map-append, append-nil}
use Rattle.std.proofs.lemmas.List.Sums.{fold_push}
use Rattle.std.proofs.lemmas.List.Elements.{filter-append, filter_map-append}
use Rattle.std.proofs.lemmas.Bool.Decides.{nat_tests}
use Rattle.sqs_message.specs.declared.row.Row.{Row}
use Rattle.sqs_formats.specs.Report.{age_when, ages, ascending, column, count, counted_columns, counts_in, depth, depth_max, greatest, is_column, numbers, prefixes}
use Rattle.sim_report.proofs.Ascending.{ascending-push}
use Rattle.sim_report.specs.Tally.{counted, depth_by, tallied, tally_of, with_age, age_in}

length-more : (p : Row → Bool) (rows : List Row) (row : Row) (b : Bool) → b ≡ p row → length (filter p rows ++ cond b (row ∷ []) []) ≡ cond b (length (filter p rows) + 1) (length (filter p rows))
length-more p rows row true e = grind (arith, common_steps)
length-more p rows row false e = grind (arith, common_steps)

-- how many rows are in a column, where `of` gives a row's
abbrev pub number_in : (Row → Option ℕ) → List Row → ℕ → ℕ
number_in of rows n = length (filter (λ row. is_column n (of row)) rows)

-- one more row in a column
number-push : (of : Row → Option ℕ) (n : ℕ) (rows : List Row) (row : Row)
    → number_in of (rows ++ row ∷ []) n ≡ cond (is_column n (of row)) (number_in of rows n + 1) (number_in of rows n)
number-push of n rows row =
    ap length (filter-append (λ row. is_column n (of row)) rows (row ∷ [])) ∙ length-more (λ row. is_column n (of row)) rows row (is_column n (of row)) refl

-- the same of a column of the report
pub count-push : (n : ℕ) (rows : List Row) (row : Row) → count n (rows ++ row ∷ []) ≡ cond (counts_in n row) (count n rows + 1) (count n rows)
count-push n rows row = number-push (λ row. column row.kind row.answer) n rows row

-- no number of a numbering is below its first
numbers-after : (g : ℕ → ℕ) (c m : ℕ) (cs : List (List ℕ)) → c < m → map (λ n. cond (c == n) (g n + 1) (g n)) (numbers m cs) ≡ map g (numbers m cs)
numbers-after g c m [] h = refl
numbers-after g c m (x ∷ xs) h =
    let no : cond (c == m) (g m + 1) (g m) ≡ g m = grind (arith, nat_tests) in
    let rest = numbers-after g c (m + 1) xs (omega arith) in
    cc

-- one more at a place of a numbering
numbers-at : (g : ℕ → ℕ) (i m c : ℕ) (cs : List (List ℕ)) → c ≡ m + i
    → map (λ n. cond (c == n) (g n + 1) (g n)) (numbers m cs) ≡ set (map g (numbers m cs)) i (get_or (map g (numbers m cs)) i 0 + 1)
numbers-at g i m c [] h = refl
numbers-at g zero m c (x ∷ xs) h =
    let yes : cond (c == m) (g m + 1) (g m) ≡ g m + 1 = grind (arith, nat_tests) in
    let rest = numbers-after g c (m + 1) xs (omega arith) in
    cc
numbers-at g (suc i) m c (x ∷ xs) h =
    let no : cond (c == m) (g m + 1) (g m) ≡ g m = grind (arith, nat_tests) in
    let rest = numbers-at g i (m + 1) c xs (omega arith) in
    cc

-- counts with one more, by whether each column is the row's
counts-with : (g : ℕ → ℕ) (c : Option ℕ) (cs : List (List ℕ)) → map (λ n. cond (is_column n c) (g n + 1) (g n)) (numbers 0 cs) ≡ counted c (map g (numbers 0 cs))
counts-with g None cs = refl
counts-with g (Some c) cs = numbers-at g c 0 c cs (omega arith)

numbers-push : (of : Row → Option ℕ) (rows : List Row) (row : Row) (ns : List ℕ)
    → map (number_in of (rows ++ row ∷ [])) ns ≡ map (λ n. cond (is_column n (of row)) (number_in of rows n + 1) (number_in of rows n)) ns
numbers-push of rows row [] = refl
numbers-push of rows row (n ∷ ns) =
    let here = number-push of n rows row in
    let rest = numbers-push of rows row ns in
    cc

-- the numbers of rows in all columns with one more row
pub columns-push : (of : Row → Option ℕ) (names : List (List ℕ)) (rows : List Row) (row : Row)
    → map (number_in of (rows ++ row ∷ [])) (numbers 0 names) ≡ counted (of row) (map (number_in of rows) (numbers 0 names))
columns-push of names rows row = numbers-push of rows row (numbers 0 names) ∙ counts-with (number_in of rows) (of row) names

-- the counts with one more row
pub counts-push : (rows : List Row) (row : Row)
    → map (λ n. count n (rows ++ row ∷ [])) (numbers 0 counted_columns) ≡ counted (column row.kind row.answer) (map (λ n. count n rows) (numbers 0 counted_columns))
counts-push = columns-push (λ row. column row.kind row.answer) counted_columns

-- a list's prefixes with one more element
prefixes-push : {X : Type 0} (xs : List X) (x : X) → prefixes (xs ++ x ∷ []) ≡ prefixes xs ++ (xs ++ x ∷ []) ∷ []
prefixes-push [] x = refl
prefixes-push {X} (y ∷ ys) x =
    ap (λ (ps : List (List X)). [] ∷ map (λ p. y ∷ p) ps) (prefixes-push ys x) ∙ ap (λ (ps : List (List X)). [] ∷ ps) (map-append (λ p. y ∷ p) (prefixes ys) ((ys ++ x ∷ []) ∷ []))

-- the most messages that there were at once, with one more row
pub depth_max-push : (rows : List Row) (row : Row) → depth_max (rows ++ row ∷ []) ≡ max (depth_max rows) (depth (rows ++ row ∷ []))
depth_max-push rows row =
    ap (λ (ps : List (List Row)). greatest (map depth ps)) (prefixes-push rows row)
    ∙ ap greatest (map-append depth (prefixes rows) ((rows ++ row ∷ []) ∷ []))
    ∙ fold_push max 0 (map depth (prefixes rows)) (depth (rows ++ row ∷ []))

-- the depth can be read off the counts
depth-by : (rows : List Row) → depth_by (map (λ n. count n rows) (numbers 0 counted_columns)) ≡ depth rows
depth-by rows = refl

age-list : (age : Option ℕ) (before : List ℕ) (row : Row) (rest : Option ℕ) → age ≡ rest
    → with_age age (ascending before) ≡ ascending (before ++ filter_map (λ (r : Row). rest) (row ∷ []))
age-list None before row rest e = rw (← e) (ap ascending (sym (append-nil before)))
age-list (Some a) before row rest e = rw (← e) (sym (ascending-push before a))

-- the ages with one more row
pub ages-push : (rows : List Row) (row : Row) → ascending (ages (rows ++ row ∷ [])) ≡ with_age (age_in (column row.kind row.answer) row) (ascending (ages rows))
ages-push rows row =
    ap ascending (filter_map-append (λ row. age_when (counts_in 4 row) row.detail) rows (row ∷ [])) ∙ sym (age-list (age_when (counts_in 4 row) row.detail) (ages rows) row (age_when (counts_in 4 row) row.detail) refl)

-- the running counts of a queue with one more row are those of its rows with it
pub tallied-is : (rows : List Row) (row : Row) → tallied row (tally_of rows) ≡ tally_of (rows ++ row ∷ [])
tallied-is rows row =
    let counts = counts-push rows row in
    let depths : depth_by (counted (column row.kind row.answer) (map (λ n. count n rows) (numbers 0 counted_columns))) ≡ depth (rows ++ row ∷ []) = ap depth_by (sym counts) ∙ depth-by (rows ++ row ∷ []) in
    let most = depth_max-push rows row in
    let old = ages-push rows row in
    rw (depths, ← counts, ← most, ← old) refl
