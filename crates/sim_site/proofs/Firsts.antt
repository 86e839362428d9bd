-- Where the first actor with a number stands, by the numbers of the actors.
use Rattle.std.specs.Prelude.{List, None, Option, Some, [], cond, false, get_or, length, map, nat_lt, not, position, set, true, ℕ, ◌+◌, ◌<◌, ◌==◌, ◌∷◌, ◌≡◌, ◌≢◌, MatchOption}
use Rattle.std.specs.List.{position_or_len}
use Rattle.std.proofs.Common.{ap, arith, refl, subst, sym, ◌∙◌}
use Rattle.std.proofs.lemmas.Bool.{ltb-true}
use Rattle.std.proofs.lemmas.Bool.Decides.{nat_tests}
use Rattle.std.proofs.lemmas.List.{get_or-map, get_or-set_other, get_or-set_same, length-map}
use Rattle.sim_clock.specs.Places.{IsAbsent, Stands, place_from_position}
use Rattle.sqs_model.specs.Actor.{Actor}
use Rattle.sqs_model.specs.Site.{is_actor}
use Rattle.sim_site.specs.Marked.{IsFirst}
use Rattle.sim_site.proofs.Ordered.{number}
use Rattle.sim_site.proofs.Turning.{found_number}

-- the numbers tell where the first actor with one of them stands
place_map : (n : ℕ) (xs : List Actor) → position_or_len (λ k. k == n) (map number xs) ≡ position_or_len (is_actor n) xs
place_map n [] = refl
place_map n (x ∷ xs) = ap (λ k. cond (not (x.number == n)) (1 + k) 0) (place_map n xs)

position_map : (n : ℕ) (xs : List Actor) → position (λ k. k == n) (map number xs) ≡ position (is_actor n) xs
position_map n xs =
    ap (λ k. cond (nat_lt k (length (map number xs))) (Some k) None) (place_map n xs)
    ∙ ap (λ l. cond (nat_lt (position_or_len (is_actor n) xs) l) (Some (position_or_len (is_actor n) xs)) None) (length-map xs number)

-- an actor with the number after its own
abbrev other : Actor → Actor
other a = record a { number = a.number + 1 }

-- the first actor with a number stands at one place
one_place : (n : ℕ) (xs : List Actor) (i j : ℕ) (a : Actor) → Stands (is_actor n) xs i → Stands (is_actor n) xs j → i ≡ j
one_place n xs i j a s t =
    elim (i == j) as (λ b. (i == j) ≡ b → i ≡ j) [
      | true ↦ λ e. grind (arith, nat_tests, e)
      | false ↦ λ e.
          let apart : i ≢ j = grind (arith, nat_tests, e) in
          let alike : set xs i (other (get_or xs i a)) ≡ set xs j (other (get_or xs j a)) = sym (s.change other a) ∙ t.change other a in
          let here : other (get_or xs i a) ≡ get_or xs i a =
          sym (get_or-set_same xs i (other (get_or xs i a)) a s.within) ∙ ap (λ ys. get_or ys i a) alike ∙ get_or-set_other xs j i (other (get_or xs j a)) a apart in
          absurd (omega (arith, ap number here))
    ] refl

stands_by : (n : ℕ) (xs : List Actor) (i : ℕ) (a : Actor) (o : Option ℕ) → Stands (is_actor n) xs i → MatchOption o (IsAbsent (is_actor n) xs) (Stands (is_actor n) xs) → o ≡ Some i
stands_by n xs i a None s none = let clash : None ≡ Some (get_or xs i a) = sym none.found ∙ s.found a in absurd (cc clash)
stands_by n xs i a (Some j) s t = ap (λ k. Some k) (one_place n xs j i a t s)

its_place : (n : ℕ) (xs : List Actor) (i : ℕ) → Stands (is_actor n) xs i → position (is_actor n) xs ≡ Some i
its_place n [] i s = absurd (omega (arith, s.within))
its_place n (x ∷ xs) i s = stands_by n (x ∷ xs) i x _ s (place_from_position (is_actor n) (x ∷ xs) _ refl)

-- one that stands at its place is the first there with its number
pub stands_first : (n : ℕ) (xs : List Actor) (i : ℕ) → Stands (is_actor n) xs i → IsFirst (map number xs) i
stands_first n [] i s = absurd (omega (arith, s.within))
stands_first n (x ∷ xs) i s =
    let same : get_or (map number (x ∷ xs)) i 0 ≡ n = get_or-map number (x ∷ xs) i x 0 s.within ∙ found_number n (x ∷ xs) (get_or (x ∷ xs) i x) (s.found x) in
    subst (λ m. position (λ k. k == m) (map number (x ∷ xs)) ≡ Some i) (sym same) (position_map n (x ∷ xs) ∙ its_place n (x ∷ xs) i s)

within_by : (ns : List ℕ) (k i : ℕ) (b : _) → nat_lt k (length ns) ≡ b → cond b (Some k) None ≡ Some i → i < length ns
within_by ns k i true e h = let same : k ≡ i = cc in subst (λ m. m < length ns) same (ltb-true _ _ e)
within_by ns k i false e h = absurd (cc h)

-- such a place is one of the list
pub first_within : (xs : List Actor) (i : ℕ) → IsFirst (map number xs) i → i < length xs
first_within xs i h = omega (arith, within_by (map number xs) _ i _ refl h, length-map xs number)

-- the actor there is found by its number
pub first_found : (n : ℕ) (xs : List Actor) (i : ℕ) (a : Actor) → IsFirst (map number xs) i → a ≡ get_or xs i a → a.number ≡ n → MatchOption (Some i) (IsAbsent (is_actor n) xs) (Stands (is_actor n) xs)
first_found n xs i a h here e =
    let same : get_or (map number xs) i 0 ≡ n = get_or-map number xs i a 0 (first_within xs i h) ∙ sym (ap number here) ∙ e in
    place_from_position (is_actor n) xs (Some i) (sym (sym (position_map n xs) ∙ subst (λ m. position (λ k. k == m) (map number xs) ≡ Some i) same h))
