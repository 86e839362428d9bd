-- Lists, part by part.
use Rattle.std.proofs.Common.{◌≡◌, ℕ, ◌+◌, List, ◌++◌, append_assoc, drop, length, take, ◌∙◌}
use Rattle.std.proofs.lemmas.List.{take-append-drop, drop-drop}
use Rattle.std.proofs.Math.Seq.{drop-append_seam, take-append_seam}

-- a list in three parts
pub three_parts : {X : Type 0} (n m : ℕ) (xs : List X) → take n xs ++ (take m (drop n xs) ++ drop (n + m) xs) ≡ xs
three_parts n m xs = rw (← drop-drop m n xs, take-append-drop m (drop n xs)) (take-append-drop n xs)

-- the parts of which a list was made
pub record AreParts {X : Type 0} (n m : ℕ) (xs firsts nexts lasts : List X) : Type 0 where
  pub front : take n xs ≡ firsts
  pub middle : take m (drop n xs) ≡ nexts
  pub back : drop (n + m) xs ≡ lasts

pub made_of_parts : {X : Type 0} (n m : ℕ) (xs firsts nexts lasts : List X) → xs ≡ (firsts ++ nexts) ++ lasts → length firsts ≡ n → length nexts ≡ m → AreParts n m xs firsts nexts lasts
made_of_parts n m xs firsts nexts lasts is long wide =
    let whole : xs ≡ firsts ++ (nexts ++ lasts) = is ∙ append_assoc firsts nexts lasts in
    let rest : drop n xs ≡ nexts ++ lasts = rw (whole, ← long) (drop-append_seam firsts (nexts ++ lasts)) in
    record {
      front = rw (whole, ← long) (take-append_seam firsts (nexts ++ lasts));
      middle = rw (rest, ← wide) (take-append_seam nexts lasts);
      back = rw (← drop-drop m n xs, rest, ← wide) (drop-append_seam nexts lasts);
    }
