-- Counts with their names.
use Rattle.std.proofs.Common.{◌≡◌, ℕ, suc, zero, ◌<◌, ◌∙◌, Bor, List, [], ◌∷◌, ap, get_or, length, map, refl, sym, arith}
use Rattle.std.proofs.lemmas.List.{length-map}
use Rattle.std.specs.Prelude.{Some, zip}
use Rattle.sim_report.specs.Figures.{Figure, count_names, named_counts}

abbrev paired : List (List ℕ) → List ℕ → List Figure
paired names ns = map (λ p. (p.0, Some p.1)) (zip names ns)

at : (names : List (List ℕ)) (ns : List ℕ) (i : ℕ) (d : Figure) → i < length names → i < length ns
    → get_or (paired names ns) i d ≡ (get_or names i [], Some (get_or ns i 0))
at [] ns i d h g = absurd (omega arith)
at (name ∷ names) [] i d h g = absurd (omega arith)
at (name ∷ names) (n ∷ ns) zero d h g = refl
at (name ∷ names) (n ∷ ns) (suc i) d h g = at names ns i d (omega arith) (omega arith)

length-pairs : (names : List (List ℕ)) (ns : List ℕ) → length names ≡ length ns → length (paired names ns) ≡ length names
length-pairs [] ns e = refl
length-pairs (name ∷ names) [] e = absurd (omega arith)
length-pairs (name ∷ names) (n ∷ ns) e =
    let rest = length-pairs names ns (omega arith) in
    omega arith

-- as many figures as names
pub length-named : (ns : List ℕ) → length ns ≡ 27 → length (named_counts ns) ≡ 27
unfolding count_names
length-named ns e = length-pairs count_names ns (omega arith)

-- the figure in a place
pub named-at : (ns : List ℕ) (i : ℕ) (d : Figure) → length ns ≡ 27 → i < 27 → get_or (named_counts ns) i d ≡ (get_or count_names i [], Some (get_or ns i 0))
unfolding count_names
named-at ns i d e h = at count_names ns i d (omega arith) (omega arith)

-- as many names as are known
pub length-names : (names : List (Bor (List ℕ))) → map (λ n. n.now) names ≡ count_names → length names ≡ 27
unfolding count_names
length-names names e = sym (length-map names (λ n. n.now)) ∙ ap length e
