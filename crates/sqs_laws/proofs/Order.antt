-- Rows are in the order of time, none after the horizon.
use Rattle.sqs_laws.proofs.Terms.{All-cons, All-nil, is_lt, IsInOrder, IsRunOf, IsSoundScenario, Key, key_cmp, nat_cmp, Row, Run, Scenario, sound_simulated, sqs}
use Rattle.std.specs.Prelude.{All, List, [], false, ◌++◌, ◌∷◌, ◌≡◌, ◌≤◌}
use Rattle.std.proofs.Common.{arith, subst, sym}
use Rattle.sim_clock.proofs.Orderings.{key_not_less, then_not_less}
use Rattle.sim_engine.specs.Merge.{row_cmp}
use Rattle.sqs_laws.specs.Laws.{InTime}
use Rattle.sqs_laws.proofs.Worlds.{RowLaw, every_row}

-- a row that does not come before another is no earlier
no_earlier : (x y : Row) → is_lt (row_cmp sqs y x) ≡ false → x.key.at ≤ y.key.at
no_earlier x y e = key_not_less y.key x.key (then_not_less (key_cmp y.key x.key) (nat_cmp y.queue x.queue) e)

follows_first : (x r : Row) (xs after : List Row) (before : List Row) → IsInOrder (row_cmp sqs) (x ∷ xs) → xs ≡ before ++ (r ∷ after) → x.key.at ≤ r.key.at
follows_first x r [] after [] o e = cc
follows_first x r [] after (b ∷ bs) o e = cc
follows_first x r (y ∷ ys) after [] o e = let is : y ≡ r = cc in subst (λ (z : Row). x.key.at ≤ z.key.at) is (no_earlier x y o.0)
follows_first x r (y ∷ ys) after (b ∷ bs) o e =
    let rest : ys ≡ bs ++ (r ∷ after) = cc in
    let one : x.key.at ≤ y.key.at = no_earlier x y o.0 in
    let two : y.key.at ≤ r.key.at = follows_first y r ys after bs o.1 rest in
    omega arith

all_before : (rows before : List Row) (r : Row) (after : List Row) → IsInOrder (row_cmp sqs) rows → rows ≡ before ++ (r ∷ after) → All (λ x. x.key.at ≤ r.key.at) before
all_before rows [] r after o e = All-nil (λ x. x.key.at ≤ r.key.at)
all_before [] (b ∷ bs) r after o e = cc
all_before (x ∷ xs) (b ∷ bs) r after o e =
    let is : x ≡ b = cc in
    let rest : xs ≡ bs ++ (r ∷ after) = cc in
    All-cons (λ x. x.key.at ≤ r.key.at) b bs (subst (λ (z : Row). z.key.at ≤ r.key.at) is (follows_first x r xs after bs o rest)) (all_before xs bs r after o.1 rest)

-- each row is that of what was due by the horizon
abbrev by_horizon : (s : Scenario) → RowLaw s
by_horizon s =
    record {
      Holds = λ rows q. Unit {0};
      Meets = λ before r. r.key.at ≤ s.horizon;
      moves = λ rows key q r p by m g k h. (subst (λ (x : Key). x.at ≤ s.horizon) (sym m.at_key) by.within, tt);
      apart = λ rows r q d own h. tt;
      opens = λ n settings e. tt;
    }

-- the law
pub rows_in_time : (s : Scenario) → IsSoundScenario s → (x : Run) → IsRunOf s x → InTime s x.rows
rows_in_time s sound x is =
    record {
      order = λ before r after e. all_before x.rows before r after ((sound_simulated s sound).ordered x is) e;
      horizon = every_row s (by_horizon s) x is;
    }
