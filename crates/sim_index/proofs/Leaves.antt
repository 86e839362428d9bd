-- The leaves of a tree that has one for each of so many values, and the marks of those values.
use Rattle.std.proofs.Common.{◌≡◌, ℕ, zero, suc, ◌+◌, ◌<◌, ◌≤◌, List, [], ◌∷◌, Option, Some, None, true, length, set, take, inl, inr, arith, refl, ap, sym, ◌∙◌}
use Rattle.std.specs.List.{list_any}
use Rattle.std.specs.Prelude.{MatchOption}
use Rattle.std.proofs.lemmas.Bool.{cases_lt}
use Rattle.std.proofs.lemmas.List.{get_or-set_other, get_or-take, get_or_past, length-set, length-take-le}
use Rattle.std.proofs.lemmas.Bool.Decides.{nat_tests}
use Rattle.sim_index.specs.declared.mark.Mark.{Mark}
use Rattle.sim_index.specs.Marked.{HasLeaves, is_ready}
use Rattle.sim_index.specs.Marks.{IsPlaceOfLeast, least_of, meets, no_mark, node}
use Rattle.sim_index.proofs.Spans.{same_least}
use Rattle.sim_index.proofs.Told.{same_any}

-- the same nodes are the same marks, as far as both reach
pub same_taken : (n : ℕ) (xs ys : List Mark) → n ≤ length xs → n ≤ length ys → ((i : ℕ) → node xs i ≡ node ys i) → take n xs ≡ take n ys
same_taken zero xs ys l m h = refl
same_taken (suc n) [] ys l m h = absurd (omega arith)
same_taken (suc n) (x ∷ xs) [] l m h = absurd (omega arith)
same_taken (suc n) (x ∷ xs) (y ∷ ys) l m h = let first : x ≡ y = h 0 in let rest : take n xs ≡ take n ys = same_taken n xs ys (omega arith) (omega arith) (λ i. h (suc i)) in cc

module _ (n : ℕ) (leaves : List Mark) (h : HasLeaves n leaves) where
  long : length (take n leaves) ≡ n
  long = length-take-le n leaves h.room

  pub node_taken : (i : ℕ) → node (take n leaves) i ≡ node leaves i
  node_taken i =
      elim (cases_lt i n) [
        | inl l ↦ get_or-take n leaves i no_mark l
        | inr l ↦ get_or_past (take n leaves) i no_mark (omega (arith, long)) ∙ sym (h.rest i l)
      ]

  pub least_taken : least_of (take n leaves) ≡ least_of leaves
  least_taken = same_least (take n leaves) leaves node_taken

  pub any_taken : (flags : ℕ) → list_any (meets flags) (take n leaves) ≡ list_any (meets flags) leaves
  any_taken flags = same_any flags (take n leaves) leaves node_taken

  place_taken : (place : ℕ) → IsPlaceOfLeast leaves place → IsPlaceOfLeast (take n leaves) place
  place_taken place is =
      record {
        some = λ e. is.some (sym least_taken ∙ e);
        within =
            elim (cases_lt place n) [
              | inl l ↦ omega (arith, long, l)
              | inr l ↦ absurd (is.some (sym is.due ∙ ap (λ (m : Mark). m.due) (h.rest place l)))
            ];
        due = ap (λ (m : Mark). m.due) (node_taken place) ∙ is.due ∙ sym least_taken;
        first = λ k l e. is.first k l (ap (λ (m : Mark). m.due) (sym (node_taken k)) ∙ e ∙ least_taken);
      }

  pub place_of_taken : (r : Option ℕ) → MatchOption r (least_of leaves ≡ None) (IsPlaceOfLeast leaves) → MatchOption r (least_of (take n leaves) ≡ None) (IsPlaceOfLeast (take n leaves))
  place_of_taken None e = least_taken ∙ e
  place_of_taken (Some place) is = place_taken place is

pub ready_by : (a b c : ℕ) → a < b → a < c → is_ready a b c ≡ true
ready_by a b c l m = grind (arith, nat_tests)

-- where there is room for one more, there is in both
pub ready_room : (a b c : ℕ) → is_ready a b c ≡ true → (a < b) × (a < c)
ready_room a b c h = (grind (arith, nat_tests), grind (arith, nat_tests))

-- one more value, marked behind those that are there
pub more_leaves : (n place more : ℕ) (leaves : List Mark) (mark : Mark) → HasLeaves n leaves → place ≡ n → n < length leaves → more ≡ n + 1 → HasLeaves more (set leaves place mark)
more_leaves n place more leaves mark h at room next =
    record { room = omega (arith, next, room, length-set leaves place mark); rest = λ i l. get_or-set_other leaves place i mark no_mark (λ e. omega (arith, e, l, at, next)) ∙ h.rest i (omega (arith, l, next)) }

-- none left of values whose marks tell nothing
pub no_leaves : {A : Type 0} (n : ℕ) (values : List A) (leaves : List Mark) → HasLeaves n leaves → values ≡ [] → ((i : ℕ) → node (take n leaves) i ≡ no_mark) → HasLeaves (length values) leaves
no_leaves n values leaves h none quiet = record { room = omega (arith, ap length none); rest = λ i l. sym (node_taken n leaves h i) ∙ quiet i }
