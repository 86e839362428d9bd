-- The way down from the first node to the first leaf that tells of one of some flags.
use Rattle.std.proofs.Common.{Bool, List, ap, arith, false, inl, inr, length, refl, suc, sym, true, ℕ, ◌*◌, ◌+◌, ◌/◌, ◌<◌, ◌∙◌, ◌≡◌, ◌≤◌, ◌⊎◌, [], ◌∷◌, ◌-◌, ◌^◌, ◌||◌, drop, subst, zero}
use Rattle.std.proofs.Math.Nat.{pow-succ'}
use Rattle.std.proofs.lemmas.Bool.{cases_lt}
use Rattle.std.proofs.lemmas.List.{get_or-drop, get_or_default, length-drop}
use Rattle.std.proofs.lemmas.List.Folds.{list_any_at, list_any_none}
use Rattle.std.proofs.lemmas.Nat.{pow_pos}
use Rattle.std.specs.List.{list_any}
use Rattle.sim_index.specs.declared.mark.Mark.{Mark}
use Rattle.sim_index.specs.Marks.{ArePairs, IsNextIn, IsPower, NoneIn, meets, no_mark, node, tells}
use Rattle.sim_index.proofs.Rows.{IsPaired, no_meets, none_of_root, pair_none, quiet, some_of_root}
use Rattle.sim_index.proofs.Spans.{row_above}

pub power_some : (n : ℕ) → IsPower n → 1 ≤ n
power_some n p = omega (arith, pow_pos p.0, p.1)

-- the first node in its row that has one of these flags
pub record IsFirstTold (nodes : List Mark) (flags place : ℕ) : Type 0 where
  pub row : ℕ
  pub power : IsPower row
  pub from : row ≤ place
  pub within : place < 2 * row
  pub told : tells nodes flags place ≡ true
  pub before : NoneIn nodes flags row place

pub told_root : (nodes : List Mark) (flags : ℕ) → tells nodes flags 1 ≡ true → IsFirstTold nodes flags 1
told_root nodes flags told = record { row = 1; power = (0, refl); from = omega arith; within = omega arith; told = told; before = λ i l u. absurd (omega (arith, l, u)) }

true_false : true ≡ false → ⊥
true_false h = cc

told_second_by : (nodes : List Mark) (flags at : ℕ) (b : Bool) → tells nodes flags (2 * at + 1) ≡ b → ArePairs nodes → 1 ≤ at → 2 * at + 1 < length nodes → tells nodes flags at ≡ true
    → tells nodes flags (2 * at) ≡ false → b ≡ true
told_second_by nodes flags at true e pairs low high told first = refl
told_second_by nodes flags at false e pairs low high told first =
    absurd (true_false (sym told ∙ ap (meets flags) (pairs at low high) ∙ pair_none flags (node nodes (2 * at)) (node nodes (2 * at + 1)) first e))

-- of the two below a node that tells of one the second does, where the first does not
told_second : (nodes : List Mark) (flags at : ℕ) → ArePairs nodes → 1 ≤ at → 2 * at + 1 < length nodes → tells nodes flags at ≡ true → tells nodes flags (2 * at) ≡ false → tells nodes flags (2 * at + 1) ≡ true
told_second nodes flags at pairs low high told first = told_second_by nodes flags at _ refl pairs low high told first

pub below_near : (nodes : List Mark) (flags at next : ℕ) → ((tells nodes flags (2 * at) ≡ true) × (next ≡ 2 * at)) ⊎ ((tells nodes flags (2 * at) ≡ false) × (next ≡ 2 * at + 1)) → next ≤ 2 * at + 1
below_near nodes flags at next (inl h) = omega (arith, h.1)
below_near nodes flags at next (inr h) = omega (arith, h.1)

module _ (nodes : List Mark) (flags : ℕ) (pairs : ArePairs nodes) where
  none_left : (at : ℕ) (first : IsFirstTold nodes flags at) → 2 * at + 1 < length nodes → NoneIn nodes flags (2 * first.row) (2 * at)
  none_left at first high i l u =
      let some : 1 ≤ first.row = omega (arith, first.from, first.within) in
      quiet nodes flags i pairs (omega (arith, l, some)) (omega (arith, u, high)) (first.before (i / 2) (omega (arith, l)) (omega (arith, u)))

  below : (at next : ℕ) → (first : IsFirstTold nodes flags at) → 2 * at ≤ next → next ≤ 2 * at + 1 → tells nodes flags next ≡ true → NoneIn nodes flags (2 * first.row) next → IsFirstTold nodes flags next
  below at next first low high told before =
      record {
        row = 2 * first.row;
        power = (suc first.power.0, ap (λ k. 2 * k) first.power.1 ∙ sym (pow-succ' 2 first.power.0));
        from = omega (arith, first.from, low);
        within = omega (arith, first.within, high);
        told = told;
        before = before;
      }

  -- one step down
  pub told_below : (at next : ℕ) → 1 ≤ at → 2 * at + 1 < length nodes → IsFirstTold nodes flags at
      → ((tells nodes flags (2 * at) ≡ true) × (next ≡ 2 * at)) ⊎ ((tells nodes flags (2 * at) ≡ false) × (next ≡ 2 * at + 1)) → IsFirstTold nodes flags next
  told_below at next low high first is =
      elim is [
        | inl h ↦ below at next first (omega (arith, h.1)) (omega (arith, h.1)) (ap (tells nodes flags) h.1 ∙ h.0) (λ i l u. none_left at first high i l (omega (arith, u, h.1)))
        | inr h ↦
            below at next first (omega (arith, h.1)) (omega (arith, h.1)) (ap (tells nodes flags) h.1 ∙ told_second nodes flags at pairs low high first.told h.0)
            (λ i l u.
            elim (cases_lt i (2 * at)) [
              | inl m ↦ none_left at first high i l m
              | inr m ↦ ap (tells nodes flags) (let here : i ≡ 2 * at = omega (arith, u, m, h.1) in here) ∙ h.0
            ])
      ]

-- a leaf at the end of the way
pub told_leaf : (nodes : List Mark) (flags width leaf : ℕ) → IsPower width → width ≤ leaf → leaf < 2 * width → IsFirstTold nodes flags leaf → IsNextIn nodes flags width (2 * width) leaf
told_leaf nodes flags width leaf power low high first =
    record {
      past = low;
      within = high;
      found = first.told;
      none_before = λ i l u.
          elim (cases_lt width first.row) [
            | inl m ↦ absurd (omega (arith, row_above width first.row power first.power m, first.from, high))
            | inr m ↦
                elim (cases_lt first.row width) [
                  | inl n ↦ absurd (omega (arith, row_above first.row width first.power power n, first.within, low))
                  | inr n ↦ first.before i (omega (arith, l, m, n)) u
                ]
          ];
    }

-- a node of a row that has one of these flags
record IsToldIn (nodes : List Mark) (flags row : ℕ) : Type 0 where
  pub place : ℕ
  pub from : row ≤ place
  pub within : place < 2 * row
  pub told : tells nodes flags place ≡ true

told_lower : (nodes : List Mark) (flags row : ℕ) → ArePairs nodes → 1 ≤ row → 4 * row ≤ length nodes → IsToldIn nodes flags row → IsToldIn nodes flags (2 * row)
told_lower nodes flags row pairs some long t = by (tells nodes flags (2 * t.place)) refl
  where
    by : (b : Bool) → tells nodes flags (2 * t.place) ≡ b → IsToldIn nodes flags (2 * row)
    by true e = record { place = 2 * t.place; from = omega (arith, t.from); within = omega (arith, t.within); told = e }
    by false e =
        record {
          place = 2 * t.place + 1;
          from = omega (arith, t.from);
          within = omega (arith, t.within);
          told = told_second nodes flags t.place pairs (omega (arith, some, t.from)) (omega (arith, long, t.within)) t.told e;
        }

-- where the first node has one of these flags, a node of each row does
told_in : (nodes : List Mark) (flags k : ℕ) → ArePairs nodes → 2 * 2 ^ k ≤ length nodes → tells nodes flags 1 ≡ true → IsToldIn nodes flags (2 ^ k)
told_in nodes flags zero pairs long told = record { place = 1; from = omega arith; within = omega arith; told = told }
told_in nodes flags (suc k) pairs long told =
    let twice : 2 ^ suc k ≡ 2 * 2 ^ k = pow-succ' 2 k in
    subst (IsToldIn nodes flags) (sym twice)
    (told_lower nodes flags (2 ^ k) pairs (pow_pos k) (omega (arith, twice, long)) (told_in nodes flags k pairs (omega (arith, twice, long)) told))

module _ (nodes : List Mark) (width flags : ℕ) (tree : IsPaired nodes width) where
  leaf_told : tells nodes flags 1 ≡ true → list_any (meets flags) (drop width nodes) ≡ true
  leaf_told told =
      let power : IsPower width = tree.power (some_of_root nodes width flags tree.long told) in
      let at : IsToldIn nodes flags width = subst (IsToldIn nodes flags) (sym power.1) (told_in nodes flags power.0 tree.pairs (omega (arith, power.1, tree.long)) told) in
      let back : width + (at.place - width) ≡ at.place = omega (arith, at.from) in
      let within : at.place - width < length (drop width nodes) = omega (arith, at.from, at.within, length-drop width nodes, tree.long) in
      list_any_at (meets flags) (drop width nodes) (at.place - width) no_mark within (ap (meets flags) (get_or-drop width nodes (at.place - width) no_mark) ∙ ap (tells nodes flags) back ∙ at.told)

  no_leaf_told : tells nodes flags 1 ≡ false → list_any (meets flags) (drop width nodes) ≡ false
  no_leaf_told quiet =
      list_any_none (meets flags) (drop width nodes)
      (λ i d l. ap (meets flags) (get_or_default (drop width nodes) i d no_mark l) ∙ none_of_root nodes (drop width nodes) width flags tree refl 0 quiet i (omega arith) l)

  -- the first node has one of these flags exactly where a leaf does
  pub root_any : tells nodes flags 1 ≡ list_any (meets flags) (drop width nodes)
  root_any = by (tells nodes flags 1) refl
    where
      by : (b : Bool) → tells nodes flags 1 ≡ b → tells nodes flags 1 ≡ list_any (meets flags) (drop width nodes)
      by true e = e ∙ sym (leaf_told e)
      by false e = e ∙ sym (no_leaf_told e)

-- where no place has one of these flags, none does from one on
pub none_any : (flags : ℕ) (marks : List Mark) (from : ℕ) → list_any (meets flags) marks ≡ false → NoneIn marks flags from (length marks)
none_any flags marks from e i l u = by (tells marks flags i) refl
  where
    by : (b : Bool) → tells marks flags i ≡ b → tells marks flags i ≡ false
    by true k = absurd (true_false (sym (list_any_at (meets flags) marks i no_mark u k) ∙ e))
    by false k = k

-- the same marks tell of the same flags, whatever empty places follow
pub same_any : (flags : ℕ) (xs ys : List Mark) → ((i : ℕ) → node xs i ≡ node ys i) → list_any (meets flags) xs ≡ list_any (meets flags) ys
same_any flags [] [] h = refl
same_any flags [] (y ∷ ys) h =
    let none : meets flags y ≡ false = ap (meets flags) (sym (h 0)) ∙ no_meets flags in
    same_any flags [] ys (λ i. h (suc i)) ∙ sym (ap (λ b. b || list_any (meets flags) ys) none)
same_any flags (x ∷ xs) [] h =
    let none : meets flags x ≡ false = ap (meets flags) (h 0) ∙ no_meets flags in
    ap (λ b. b || list_any (meets flags) xs) none ∙ same_any flags xs [] (λ i. h (suc i))
same_any flags (x ∷ xs) (y ∷ ys) h = (λ j. meets flags (h 0 j) || same_any flags xs ys (λ i. h (suc i)) j)
