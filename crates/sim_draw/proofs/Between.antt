-- The time at a word lies between those of the quantiles beside it.
use Rattle.std.proofs.Common.{All, Bool, List, [], drop, get_or, if◌then◌else◌, false, length, nat_lt, refl, sym, true, ℕ, ◌∙◌, ◌≡◌, ◌∷◌, ◌+◌, ◌*◌, ◌-◌, ◌/◌, ◌<◌, ◌≤◌, ◌^◌, arith}
use Rattle.std.proofs.lemmas.Bool.Decides.{nat_tests}
use Rattle.std.proofs.lemmas.List.Elements.{All-head, All-tail}
use Rattle.std.proofs.lemmas.List.{drop_more}
use Rattle.std.proofs.Math.Nat.{div-le_of_le-mul, mul-le-mul_right}
use Rattle.sqs_model.specs.declared.agents.Quantile.{Quantile}
use Rattle.sqs_model.specs.Draw.{time_at, time_between}
use Rattle.sqs_model.specs.Valid.{AreAscending, AreQuantiles, AscendsAll, Between, Follows}

share_at_most : (passed span more : ℕ) → passed ≤ span → passed * more / span ≤ more
share_at_most passed span more h = div-le_of_le-mul span (mul-le-mul_right more h)

pub between_within : (p q : Quantile) (word : ℕ) → Follows p q → word * 1000 < q.permille * 2 ^ 32 → time_between p q word ≤ q.time
between_within p q word f h =
    let share : (word * 1000 - p.permille * 2 ^ 32) * (q.time - p.time) / ((q.permille - p.permille) * 2 ^ 32) ≤ q.time - p.time =
    share_at_most (word * 1000 - p.permille * 2 ^ 32) ((q.permille - p.permille) * 2 ^ 32) (q.time - p.time) (omega (arith, f.0)) in
    omega (arith, f.1)

-- quantiles that are left of others: a word has the same time by both
pub record AreLeft (word : ℕ) (all rest : List Quantile) : Type 0 where
  pub some : 1 ≤ length rest
  pub times : All (λ q. Between 1 86400000 q.time) rest
  pub permilles : All (λ q. q.permille ≤ 1000) rest
  pub ascending : AscendsAll rest
  pub same : time_at rest word ≡ time_at all word

ascending_rest : (p : Quantile) (qs : List Quantile) → AreAscending p qs → AscendsAll qs
ascending_rest p [] h = tt
ascending_rest p (q ∷ qs) h = h.1

-- a word that has not reached the second of them has a time between the first two, and else the others' time
by_second : (b : Bool) (p q : Quantile) (qs : List Quantile) (word : ℕ) → nat_lt (word * 1000) (q.permille * 2 ^ 32) ≡ b
    → time_at (p ∷ (q ∷ qs)) word ≡ (if b then time_between p q word else time_at (q ∷ qs) word)
by_second b p q qs word e = rw e refl

-- quantiles whose second one the word has reached are left without the first
pub left_later : (word : ℕ) (all : List Quantile) (p q : Quantile) (qs : List Quantile) → q.permille * 2 ^ 32 ≤ word * 1000 → AreLeft word all (p ∷ (q ∷ qs)) → AreLeft word all (q ∷ qs)
left_later word all p q qs h l =
    let no : nat_lt (word * 1000) (q.permille * 2 ^ 32) ≡ false = grind (arith, nat_tests) in
    record {
      some = omega arith;
      times = All-tail (λ (x : Quantile). Between 1 86400000 x.time) p (q ∷ qs) l.times;
      permilles = All-tail (λ (x : Quantile). x.permille ≤ 1000) p (q ∷ qs) l.permilles;
      ascending = ascending_rest p (q ∷ qs) l.ascending;
      same = sym (by_second false p q qs word no) ∙ l.same;
    }

-- those whose second one it has not reached have its time
pub time_before : (p q : Quantile) (qs : List Quantile) (word : ℕ) → word * 1000 < q.permille * 2 ^ 32 → time_at (p ∷ (q ∷ qs)) word ≡ time_between p q word
time_before p q qs word h = let yes : nat_lt (word * 1000) (q.permille * 2 ^ 32) ≡ true = grind (arith, nat_tests) in by_second true p q qs word yes

-- the second of quantiles that are left of a list from an index on
pub at_second : (word : ℕ) (all : List Quantile) (p : Quantile) (others : List Quantile) (n : ℕ) (d : Quantile) → n < length others → AreLeft word all (p ∷ drop n others)
    → AreLeft word all (p ∷ (get_or others n d ∷ drop (n + 1) others))
at_second word all p others n d h l = rw (drop_more others n d h) at l

-- what holds of the second of them
pub record IsSecond (p q : Quantile) : Type 0 where
  pub follows : Follows p q
  pub permille : q.permille ≤ 1000
  pub time : q.time ≤ 86400000

pub second_is : (word : ℕ) (all : List Quantile) (p q : Quantile) (qs : List Quantile) → AreLeft word all (p ∷ (q ∷ qs)) → IsSecond p q
second_is word all p q qs l =
    record {
      follows = l.ascending.0;
      permille = All-head (λ (x : Quantile). x.permille ≤ 1000) q qs (All-tail (λ (x : Quantile). x.permille ≤ 1000) p (q ∷ qs) l.permilles);
      time = (All-head (λ (x : Quantile). Between 1 86400000 x.time) q qs (All-tail (λ (x : Quantile). Between 1 86400000 x.time) p (q ∷ qs) l.times)).1;
    }

-- the last of them
pub last_time : (word : ℕ) (all : List Quantile) (p : Quantile) (others : List Quantile) → others ≡ [] → AreLeft word all (p ∷ others) → (p.time ≡ time_at all word) × (p.time ≤ 86400000)
last_time word all p others none l =
    let last : AreLeft word all (p ∷ []) = rw none at l in
    (last.same, (All-head (λ (x : Quantile). Between 1 86400000 x.time) p [] last.times).1)

-- all of them are left at first
pub all_left : (word : ℕ) (all : List Quantile) (p : Quantile) (others : List Quantile) → all ≡ p ∷ others → AreQuantiles all → AreLeft word all (p ∷ others)
all_left word all p others is a =
    rw (← is) (record { some = omega (arith, a.count.0); times = a.times; permilles = a.permilles; ascending = a.ascending; same = refl })
