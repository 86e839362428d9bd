-- Where a part takes a count past the limit, the whole does.
use Rattle.std.specs.Prelude.{List, [], max, ℕ, ◌++◌, ◌<◌, ◌∷◌, ◌≤◌}
use Rattle.std.proofs.Common.{arith}
use Rattle.std.proofs.Math.Nat.{le-max_left, le-max_right, max-le}
use Rattle.sim_clock.specs.declared.refusal.Refusal.{Refusal}
use Rattle.sim_clock.specs.declared.refusal.Refusal.TheVariants as refusals
use Rattle.sim_engine.specs.Counts.{rows_count}
use Rattle.sim_engine.specs.Engine.{Engine}
use Rattle.sim_engine.specs.Laws.{Conditions, SiteLaws}
use Rattle.sim_engine.specs.Limits.{StopsWhere, most_count}

-- greater counts pass it too
pub more_passes : (a b c d : ℕ) → a ≤ c → b ≤ d → most_count < max a b → most_count < max c d
more_passes a b c d h k p =
    let up : max a b ≤ max c d = max-le (omega (arith, h, le-max_left c d)) (omega (arith, k, le-max_right c d)) in omega (arith, up, p)

-- refusals
pub stops_for : (L M : Type 0) (x : Refusal) → (L → M) → StopsWhere L x → StopsWhere M x
stops_for L M refusals.CountLimit f h = f h
stops_for L M refusals.Memory f h = tt
stops_for L M x f h = h

module _ {Site Row Transfer : Type 0} {engine : Engine Site Row Transfer} {conditions : Conditions Site Transfer} (basics : SiteLaws engine conditions) where
  open engine use {row_count}

  -- the counts of rows, with rows before them
  pub rows_after : (xs ys : List Row) → rows_count engine ys ≤ rows_count engine (xs ++ ys)
  rows_after [] ys = omega arith
  rows_after (x ∷ xs) ys = omega (arith, rows_after xs ys, le-max_right (row_count x) (rows_count engine (xs ++ ys)))
