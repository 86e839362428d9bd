-- Several parts written in turn, and the lines of a comparison.
use Rattle.std.proofs.Common.{arith, ◌≡◌, ◌∙◌, ℕ, zero, suc, min, Bor, ◌+◌, ◌<◌, Bool, true, false, cond, Option, List, [], ◌∷◌, ◌++◌, length, map, filter, take, get_or, refl, sym, ap, append_assoc}
use Rattle.std.proofs.lemmas.Grind.{flat_map-append}
use Rattle.std.proofs.lemmas.Slice.Zip.{get_or-zip, length-zip}
use Rattle.std.specs.List.{flat_map, zip}
use Rattle.sqs_formats.specs.Rows.{line, lines}
use Rattle.sqs_formats.specs.Report.{Column}
use Rattle.sqs_formats.specs.Comparison.{compared, comparison, comparison_records, is_new, named, only_in_b}
use Rattle.sim_records.proofs.Writes.{lines-take}
use Rattle.sim_report.specs.Compared.{new_lines}

-- the line of one more of several
pub line-more : {X : Type 0} (f : X → List (List ℕ)) (xs : List X) (i : ℕ) (d x : X) (start before after : List ℕ) → i < length xs → x ≡ get_or xs i d
    → before ≡ start ++ lines (map f (take i xs)) → after ≡ before ++ line (f x) → after ≡ start ++ lines (map f (take (i + 1) xs))
line-more {X} f xs i d x start before after h is b a =
    let this : line (f x) ≡ line (f (get_or xs i d)) = ap (λ (y : X). line (f y)) is in
    rw (a, b, this, lines-take f xs i d h) (append_assoc start (lines (map f (take i xs))) (line (f (get_or xs i d))))

new-lines-cons : (a : List Column) (c : Column) (rest : List (List (List ℕ))) (cs : List Column) (b : Bool) → rest ≡ map (λ c. only_in_b c.0) cs
    → cond b (only_in_b c.0 ∷ []) [] ++ rest ≡ map (λ c. only_in_b c.0) (cond b (c ∷ cs) cs)
new-lines-cons a c rest cs true e = ap (λ (ls : List (List (List ℕ))). only_in_b c.0 ∷ ls) e
new-lines-cons a c rest cs false e = e

-- the lines of the queues that the first report lacks
new-lines-is : (a b : List Column) → flat_map (new_lines a) b ≡ map (λ c. only_in_b c.0) (filter (is_new a) b)
new-lines-is a [] = refl
new-lines-is a (c ∷ cs) = new-lines-cons a c (flat_map (new_lines a) cs) (filter (is_new a) cs) (is_new a c) (new-lines-is a cs)

-- the two parts of a comparison
comparison-parts : (a b : List Column) → lines (flat_map (λ c. compared c (named c.0 b)) a ++ flat_map (new_lines a) b) ≡ comparison a b
unfolding comparison_records
comparison-parts a b = ap (λ (ls : List (List (List ℕ))). lines (flat_map (λ c. compared c (named c.0 b)) a ++ ls)) (new-lines-is a b)

-- the two parts of a comparison in turn
pub comparison-in-turn : (a b : List Column) (none one two : List ℕ) → none ≡ [] → one ≡ none ++ lines (flat_map (λ c. compared c (named c.0 b)) a)
    → two ≡ one ++ lines (flat_map (new_lines a) b) → two ≡ comparison a b
comparison-in-turn a b none one two e first second =
    let here = flat_map (λ (c : Column). compared c (named c.0 b)) a in
    let there = flat_map (new_lines a) b in
    let start : one ≡ lines here = first ∙ ap (λ (t : List ℕ). t ++ lines here) e in
    second ∙ ap (λ (t : List ℕ). t ++ lines there) start ∙ sym (flat_map-append line here there) ∙ comparison-parts a b

get_or-map : {X Y : Type 0} (f : X → Y) (xs : List X) (i : ℕ) (d : X) → get_or (map f xs) i (f d) ≡ f (get_or xs i d)
get_or-map f [] i d = refl
get_or-map f (x ∷ xs) zero d = refl
get_or-map f (x ∷ xs) (suc i) d = get_or-map f xs i d

-- how many columns two queues have in common
pub columns-count : (ns : List (List ℕ)) (first second : List (Option ℕ)) → length (zip ns (zip first second)) ≡ min (min (length ns) (length first)) (length second)
columns-count ns first second = omega (arith, length-zip ns (zip first second), length-zip first second)

-- the name of a column, and its two numbers
pub columns-at : (names : List (Bor (List ℕ))) (ns : List (List ℕ)) (first second : List (Option ℕ)) (i : ℕ) (b : Bor (List ℕ)) (numbers : Option ℕ × Option ℕ)
    → map (λ n. n.now) names ≡ ns → i < min (min (length ns) (length first)) (length second)
    → ((get_or names i b).now, (get_or first i numbers.0, get_or second i numbers.1)) ≡ get_or (zip ns (zip first second)) i (b.now, numbers)
columns-at names ns first second i b numbers e h =
    let outer = get_or-zip ns (zip first second) i (b.now, numbers) (omega arith) (omega (arith, length-zip first second)) in
    let inner = get_or-zip first second i numbers (omega arith) (omega arith) in
    let name : get_or ns i b.now ≡ (get_or names i b).now = ap (λ (xs : List (List ℕ)). get_or xs i b.now) (sym e) ∙ get_or-map (λ (n : Bor (List ℕ)). n.now) names i b in
    sym (outer ∙ ap (λ (p : Option ℕ × Option ℕ). (get_or ns i b.now, p)) inner ∙ ap (λ (t : List ℕ). (t, (get_or first i numbers.0, get_or second i numbers.1))) name)
