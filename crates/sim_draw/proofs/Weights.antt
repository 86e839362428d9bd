-- The weights of groups, one after another.
use Rattle.std.proofs.Common.{All, Bool, List, [], drop, false, get_or, if◌then◌else◌, length, nat_lt, refl, sym, ap, true, ℕ, ◌∙◌, ◌≡◌, ◌∷◌, ◌+◌, ◌*◌, ◌<◌, ◌≤◌, arith}
use Rattle.std.proofs.lemmas.Bool.Decides.{nat_tests}
use Rattle.std.proofs.lemmas.List.Elements.{All-head, All-tail}
use Rattle.std.proofs.lemmas.List.{drop_more, drop_all}
use Rattle.std.proofs.lemmas.List.Sums.{sum_by-cons}
use Rattle.sqs_model.specs.declared.agents.WeightedGroup.{WeightedGroup}
use Rattle.sqs_model.specs.Draw.{first_past, total_weight}
use Rattle.sqs_model.specs.Valid.{AreWeighted, Between}

abbrev HasWeight : WeightedGroup → Type 0
HasWeight g = Between 1 1000000 g.weight

weights_most : (gs : List WeightedGroup) → All HasWeight gs → total_weight gs ≤ 1000000 * length gs
weights_most [] h = let none : total_weight [] ≡ 0 = refl in omega arith
weights_most (g ∷ gs) h =
    let first : g.weight ≤ 1000000 = (All-head HasWeight g gs h).1 in
    let rest = weights_most gs (All-tail HasWeight g gs h) in
    let sum : total_weight (g ∷ gs) ≡ g.weight + total_weight gs = sum_by-cons (λ (x : WeightedGroup). x.weight) g gs in
    omega arith

-- the weights of groups are 100,000,000 together at most
pub total_most : (gs : List WeightedGroup) → AreWeighted gs → total_weight gs ≤ 100000000
total_most gs h = let most = weights_most gs h.weights in omega (arith, h.count)

-- the groups from an index on
pub from_group : (gs : List WeightedGroup) (i : ℕ) (g : WeightedGroup) → i < length gs → g ≡ get_or gs i g → drop i gs ≡ g ∷ drop (i + 1) gs
from_group gs i g h e = drop_more gs i g h ∙ ap (λ x. x ∷ drop (i + 1) gs) (sym e)

-- weights that were added up to an index are with the rest those of all
pub record AreAdded (gs : List WeightedGroup) (i added : ℕ) : Type 0 where
  pub whole : added + total_weight (drop i gs) ≡ total_weight gs

pub one_added : (gs : List WeightedGroup) (i added : ℕ) (g : WeightedGroup) → i < length gs → g ≡ get_or gs i g → AreAdded gs i added → AreAdded gs (i + 1) (added + g.weight)
one_added gs i added g h e a =
    let next : total_weight (drop i gs) ≡ g.weight + total_weight (drop (i + 1) gs) =
    ap total_weight (from_group gs i g h e) ∙ sum_by-cons (λ (x : WeightedGroup). x.weight) g (drop (i + 1) gs) in
    record { whole = omega (arith, a.whole) }

pub added_most : (gs : List WeightedGroup) (i added : ℕ) → AreWeighted gs → AreAdded gs i added → added ≤ 100000000
added_most gs i added h a = let most = total_most gs h in omega (arith, a.whole)

pub all_added : (gs : List WeightedGroup) (i added : ℕ) → length gs ≤ i → AreAdded gs i added → added ≡ total_weight gs
all_added gs i added h a =
    let none : total_weight (drop i gs) ≡ 0 = ap total_weight (drop_all i gs h) in
    omega (arith, a.whole)

-- the first group past a number is that of the groups from an index on
pub record IsLeft (n : ℕ) (gs : List WeightedGroup) (i before : ℕ) : Type 0 where
  pub added : AreAdded gs i before
  pub same : first_past n before (drop i gs) ≡ first_past n 0 gs

by_weight : (b : Bool) (n before : ℕ) (g : WeightedGroup) (gs : List WeightedGroup) → nat_lt n (before + g.weight) ≡ b
    → first_past n before (g ∷ gs) ≡ (if b then g.group else first_past n (before + g.weight) gs)
by_weight b n before g gs e = rw e refl

-- a group whose weight is past the number is the first
pub is_past : (n : ℕ) (gs : List WeightedGroup) (i before : ℕ) (g : WeightedGroup) → i < length gs → g ≡ get_or gs i g → n < before + g.weight → IsLeft n gs i before → g.group ≡ first_past n 0 gs
is_past n gs i before g h e past left =
    let yes : nat_lt n (before + g.weight) ≡ true = grind (arith, nat_tests) in
    sym (by_weight true n before g (drop (i + 1) gs) yes) ∙ sym (ap (first_past n before) (from_group gs i g h e)) ∙ left.same

-- one whose weight is not is left behind
pub left_behind : (n : ℕ) (gs : List WeightedGroup) (i before : ℕ) (g : WeightedGroup) → i < length gs → g ≡ get_or gs i g → before + g.weight ≤ n → IsLeft n gs i before → IsLeft n gs (i + 1) (before + g.weight)
left_behind n gs i before g h e past left =
    let no : nat_lt n (before + g.weight) ≡ false = grind (arith, nat_tests) in
    record {
      added = one_added gs i before g h e left.added;
      same = sym (by_weight false n before g (drop (i + 1) gs) no) ∙ sym (ap (first_past n before) (from_group gs i g h e)) ∙ left.same;
    }

-- no group is left
pub none_past : (n : ℕ) (gs : List WeightedGroup) (i before : ℕ) → length gs ≤ i → IsLeft n gs i before → [] ≡ first_past n 0 gs
none_past n gs i before h left = sym (ap (first_past n before) (drop_all i gs h)) ∙ left.same
