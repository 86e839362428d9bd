-- The places of groups in a table.
use Rattle.std.proofs.Common.{◌≡◌, ℕ, suc, ◌+◌, ◌<◌, Bool, true, false, List, [], ◌∷◌, Option, None, Some, cond, length, map, not, set, get_or, arith, refl, ap, sym, ◌∙◌}
use Rattle.std.specs.Prelude.{◌≢◌}
use Rattle.std.specs.List.{position_or_len}
use Rattle.std.specs.Option.{option_eq}
use Rattle.std.specs.Str.{bytes_eq}
use Rattle.std.proofs.lemmas.List.{get_or-map, get_or-set_other, get_or-set_same, length-map, map-set}
use Rattle.sqs_model.specs.Queue.{same_text}
use Rattle.sqs_model.specs.Texts.{same_text_decides}
use Rattle.sqs_messages.specs.declared.groups.members.Members.{Members}
use Rattle.sqs_messages.specs.Groups.{Kept, group_at, kept, nobody, place_by}

-- names compare as texts that may be absent
pub same_name : (a b : Option (List ℕ)) → option_eq bytes_eq a b ≡ same_text a b
same_name None None = refl
same_name None (Some b) = refl
same_name (Some a) None = refl
same_name (Some a) (Some b) = refl

pub group_at_is : (groups : List Members) (i : ℕ) (d : Members) → i < length groups → group_at groups i ≡ kept (get_or groups i d)
group_at_is groups i d l = get_or-map kept groups i d nobody l

pub group_same : (groups : List Members) (i : ℕ) (y : Members) → i < length groups → group_at (set groups i y) i ≡ kept y
group_same groups i y l = let long : i < length (map kept groups) = omega (arith, length-map groups kept) in ap (λ (ks : List Kept). get_or ks i nobody) (map-set kept groups i y) ∙ get_or-set_same (map kept groups) i (kept y) nobody long

pub group_other : (groups : List Members) (i j : ℕ) (y : Members) → j ≢ i → group_at (set groups i y) j ≡ group_at groups j
group_other groups i j y n = ap (λ (ks : List Kept). get_or ks j nobody) (map-set kept groups i y) ∙ get_or-set_other (map kept groups) i j (kept y) nobody n

place_passes : {A : Type 0} (p : A → Bool) (xs : List A) (d : A) → position_or_len p xs < length xs → p (get_or xs (position_or_len p xs) d) ≡ true
place_passes p [] d l = absurd (omega arith)
place_passes p (x ∷ xs) d l = by (place_passes p xs d) (p x) refl
  where
    by : (position_or_len p xs < length xs → p (get_or xs (position_or_len p xs) d) ≡ true) → (b : Bool) → p x ≡ b → p (get_or (x ∷ xs) (position_or_len p (x ∷ xs)) d) ≡ true
    by ih true k =
        let first : position_or_len p (x ∷ xs) ≡ 0 = ap (λ b. cond (not b) (1 + position_or_len p xs) 0) k in
        ap (λ i. p (get_or (x ∷ xs) i d)) first ∙ k
    by ih false k =
        let later : position_or_len p (x ∷ xs) ≡ suc (position_or_len p xs) = ap (λ b. cond (not b) (1 + position_or_len p xs) 0) k ∙ omega arith in
        ap (λ i. p (get_or (x ∷ xs) i d)) later ∙ ih (omega (arith, l, later))

-- other groups stand at other places
pub apart : (names : List (Option (List ℕ))) (g h : Option (List ℕ)) → place_by names g < length names → same_text g h ≡ false → place_by names h ≢ place_by names g
apart names g h l n e =
    let here : same_text g (get_or names (place_by names g) g) ≡ true = place_passes (same_text g) names g l in
    let there : same_text h (get_or names (place_by names h) g) ≡ true = place_passes (same_text h) names g (omega (arith, e, l)) in
    let one : g ≡ get_or names (place_by names g) g = (same_text_decides g (get_or names (place_by names g) g)).0 here in
    let other : h ≡ get_or names (place_by names h) g = (same_text_decides h (get_or names (place_by names h) g)).0 there in
    let equal : g ≡ h = one ∙ ap (λ i. get_or names i g) (sym e) ∙ sym other in
    let yes : same_text g h ≡ true = (same_text_decides g h).1 equal in
    cc
