-- A table with one more group.
use Rattle.std.proofs.Common.{◌≡◌, ℕ, suc, ◌+◌, ◌<◌, ◌≤◌, Bool, true, false, List, [], ◌∷◌, ◌++◌, Option, cond, length, map, not, ◌||◌, get_or, arith, refl, ap, sym, subst, ◌∙◌}
use Rattle.std.specs.List.{list_any, position_or_len}
use Rattle.std.proofs.lemmas.Bool.Decides.{nat_tests}
use Rattle.std.proofs.lemmas.List.{length-append, length-map}
use Rattle.std.proofs.lemmas.List.Elements.{All-weaker}
use Rattle.std.proofs.lemmas.List.Folds.{position_or_len_push}
use Rattle.std.proofs.Math.Dec.{eqb}
use Rattle.sim_clock.proofs.Places.{place_within}
use Rattle.sqs_model.specs.Queue.{same_text}
use Rattle.sqs_model.specs.Texts.{same_text_decides}
use Rattle.sqs_messages.specs.Slots.{Shelved}
use Rattle.sqs_messages.specs.declared.groups.members.Members.{Members}
use Rattle.sqs_messages.specs.Groups.{AreInGroups, IsGrouped, IsPlaceOf, Kept, group_by, kept, nobody, place_by}

get_later : (k : Kept) (ks : List Kept) (i : ℕ) → get_or (k ∷ ks) (1 + i) nobody ≡ get_or ks i nobody
get_later k ks i = let e : 1 + i ≡ suc i = omega arith in ap (λ j. get_or (k ∷ ks) j nobody) e

look_entered : {A : Type 0} (p : A → Bool) (names : List A) (ks : List Kept) (n : A) → length names ≡ length ks
    → get_or (ks ++ nobody ∷ []) (position_or_len p (names ++ n ∷ [])) nobody ≡ get_or ks (position_or_len p names) nobody
look_entered p [] [] n e = elim (p n) as (λ b. get_or (nobody ∷ []) (cond (not b) (1 + position_or_len p []) 0) nobody ≡ nobody) [ true ↦ refl | false ↦ refl ]
look_entered p [] (k ∷ ks) n e = absurd (omega (arith, e))
look_entered p (x ∷ names) [] n e = absurd (omega (arith, e))
look_entered p (x ∷ names) (k ∷ ks) n e = by (look_entered p names ks n (omega (arith, e))) (p x)
  where
    by : get_or (ks ++ nobody ∷ []) (position_or_len p (names ++ n ∷ [])) nobody ≡ get_or ks (position_or_len p names) nobody → (b : Bool)
        → get_or (k ∷ (ks ++ nobody ∷ [])) (cond (not b) (1 + position_or_len p (names ++ n ∷ [])) 0) nobody ≡ get_or (k ∷ ks) (cond (not b) (1 + position_or_len p names) 0) nobody
    by ih true = refl
    by ih false = get_later k (ks ++ nobody ∷ []) (position_or_len p (names ++ n ∷ [])) ∙ ih ∙ sym (get_later k ks (position_or_len p names))

-- no group changes as one without messages is entered
pub entered : (names : List (Option (List ℕ))) (groups after : List Members) (g h : Option (List ℕ)) → length names ≡ length groups → map kept after ≡ map kept groups ++ nobody ∷ []
    → group_by (names ++ g ∷ []) after h ≡ group_by names groups h
entered names groups after g h e is =
    let long : length names ≡ length (map kept groups) = omega (arith, e, length-map groups kept) in
    ap (λ (ks : List Kept). get_or ks (place_by (names ++ g ∷ []) h) nobody) is ∙ look_entered (same_text h) names (map kept groups) g long

place_last : {A : Type 0} (p : A → Bool) (names : List A) (n : A) → p n ≡ true → length names ≤ position_or_len p names → position_or_len p (names ++ n ∷ []) ≡ position_or_len p names
place_last p [] n t l = ap (λ b. cond (not b) (1 + position_or_len p []) 0) t
place_last p (x ∷ names) n t l = by (place_last p names n t) (p x) refl
  where
    by : (length names ≤ position_or_len p names → position_or_len p (names ++ n ∷ []) ≡ position_or_len p names) → (b : Bool) → p x ≡ b
        → position_or_len p (x ∷ (names ++ n ∷ [])) ≡ position_or_len p (x ∷ names)
    by ih true k =
        let none : position_or_len p (x ∷ names) ≡ 0 = ap (λ b. cond (not b) (1 + position_or_len p names) 0) k in
        absurd (omega (arith, l, none))
    by ih false k =
        let later : position_or_len p (x ∷ names) ≡ 1 + position_or_len p names = ap (λ b. cond (not b) (1 + position_or_len p names) 0) k in
        let more : position_or_len p (x ∷ (names ++ n ∷ [])) ≡ 1 + position_or_len p (names ++ n ∷ []) = ap (λ b. cond (not b) (1 + position_or_len p (names ++ n ∷ [])) 0) k in
        more ∙ ap (λ i. 1 + i) (ih (omega (arith, l, later))) ∙ sym later

place_stays : {A : Type 0} (p : A → Bool) (names : List A) (n : A) → position_or_len p names < length names → position_or_len p (names ++ n ∷ []) ≡ position_or_len p names
place_stays p names n l =
    let off : eqb (position_or_len p names) (length names) ≡ false = grind (arith, nat_tests, l) in
    position_or_len_push p names n ∙ ap (λ b. cond b (length names + cond (p n) 0 1) (position_or_len p names)) off

-- the new one stands last
pub entered_last : (names : List (Option (List ℕ))) (g : Option (List ℕ)) → length names ≤ place_by names g → place_by (names ++ g ∷ []) g ≡ place_by names g
entered_last names g l = place_last (same_text g) names g ((same_text_decides g g).1 refl) l

-- and the others where they stood
pub entered_others : (names : List (Option (List ℕ))) (g h : Option (List ℕ)) (i : ℕ) → IsPlaceOf names h i → IsPlaceOf (names ++ g ∷ []) h i
entered_others names g h i p =
    let same : place_by (names ++ g ∷ []) h ≡ place_by names h = place_stays (same_text h) names g (omega (arith, p.at, p.within)) in
    record { at = p.at ∙ sym same; within = omega (arith, p.within, length-append names (g ∷ [])) }

pub place_short : (names : List (Option (List ℕ))) (g : Option (List ℕ)) → place_by names g ≤ length names
place_short names g = place_within (same_text g) names (place_by names g) refl

-- none passes a test that the first of the list to pass is past its end for
pub none_any : {A : Type 0} (p : A → Bool) (xs : List A) → length xs ≤ position_or_len p xs → list_any p xs ≡ false
none_any p [] l = refl
none_any p (x ∷ xs) l = by (none_any p xs) (p x) refl
  where
    by : (length xs ≤ position_or_len p xs → list_any p xs ≡ false) → (b : Bool) → p x ≡ b → list_any p (x ∷ xs) ≡ false
    by ih true k =
        let none : position_or_len p (x ∷ xs) ≡ 0 = ap (λ b. cond (not b) (1 + position_or_len p xs) 0) k in
        absurd (omega (arith, l, none))
    by ih false k =
        let later : position_or_len p (x ∷ xs) ≡ 1 + position_or_len p xs = ap (λ b. cond (not b) (1 + position_or_len p xs) 0) k in
        ap (λ b. b || list_any p xs) k ∙ ih (omega (arith, l, later))

-- what is kept of messages is so with another table that tells the same of each group
pub roomed : (items : List Shelved) (next : ℕ) (names names2 : List (Option (List ℕ))) (groups groups2 : List Members) → AreInGroups items next names groups → length names2 ≡ length groups2
    → ((g : Option (List ℕ)) (i : ℕ) → IsPlaceOf names g i → IsPlaceOf names2 g i)
    → ((g : Option (List ℕ)) → group_by names2 groups2 g ≡ group_by names groups g) → AreInGroups items next names2 groups2
roomed items next names names2 groups groups2 h same places alike =
    record {
      led = h.led;
      placed = All-weaker (λ (s : Shelved). IsPlaceOf names s.message.group s.group) (λ (s : Shelved). IsPlaceOf names2 s.message.group s.group) (λ s p. places s.message.group s.group p) items h.placed;
      same = same;
      grouped = λ g. subst (IsGrouped items next g) (sym (alike g)) (h.grouped g);
    }
