-- Lists of which the numbers of messages that left have gone.
use Rattle.std.proofs.Common.{◌≡◌, ℕ, ◌<◌, Bool, true, false, List, [], ◌∷◌, Option, Some, None, cond, filter, length, ◌⊎◌, inl, inr, refl, ap, sym, subst, ◌∙◌}
use Rattle.std.specs.List.{cons_option}
use Rattle.std.specs.Option.{option_map}
use Rattle.std.specs.Prelude.{All, is_some, ◌≢◌}
use Rattle.std.proofs.lemmas.Bool.{cases_eq}
use Rattle.std.proofs.lemmas.List.Elements.{All-cons, All-head, All-tail}
use Rattle.sqs_message.specs.declared.message.Message.{Message}
use Rattle.sqs_messages.specs.declared.groups.members.Members.{Members}
use Rattle.sqs_messages.specs.Groups.{AreInGroups, IsGrouped, group_at, group_by, place_by}
use Rattle.sqs_messages.specs.Slots.{Shelved, held, message_of}

-- a table tells of each group as before where the list of the group at a place tells of the same messages
pub relisted : (items : List Shelved) (next : ℕ) (names : List (Option (List ℕ))) (groups groups2 : List Members) (place : ℕ) → AreInGroups items next names groups → length groups2 ≡ length groups
    → ((j : ℕ) → j ≢ place → group_at groups2 j ≡ group_at groups j) → (group_at groups2 place).out ≡ (group_at groups place).out → held items (group_at groups2 place).numbers ≡ held items (group_at groups place).numbers
    → ((n : ℕ) → All (λ k. k < n) (group_at groups place).numbers → All (λ k. k < n) (group_at groups2 place).numbers) → AreInGroups items next names groups2
relisted items next names groups groups2 place h long others out same below =
    record {
      led = h.led;
      placed = h.placed;
      same = h.same ∙ sym long;
      grouped = λ g. each g (h.grouped g) (cases_eq (place_by names g) place);
    }
  where
    each : (g : Option (List ℕ)) → IsGrouped items next g (group_by names groups g) → (place_by names g ≡ place) ⊎ (place_by names g ≡ place → ⊥) → IsGrouped items next g (group_by names groups2 g)
    each g k (inl e) =
        let was : IsGrouped items next g (group_at groups place) = subst (λ j. IsGrouped items next g (group_at groups j)) e k in
        subst (λ j. IsGrouped items next g (group_at groups2 j)) (sym e)
        (record { listed = same ∙ was.listed; counted = out ∙ was.counted; below = below next was.below })
    each g k (inr n) = subst (IsGrouped items next g) (sym (others (place_by names g) n)) k

-- so does the table that it is written back to
pub relisted_back : (items : List Shelved) (next : ℕ) (names : List (Option (List ℕ))) (members groups groups2 written : List Members) (place : ℕ) → AreInGroups items next names members → groups ≡ members → written ≡ groups2 → length groups2 ≡ length groups
    → ((j : ℕ) → j ≢ place → group_at groups2 j ≡ group_at groups j) → (group_at groups2 place).out ≡ (group_at groups place).out → held items (group_at groups2 place).numbers ≡ held items (group_at groups place).numbers
    → ((n : ℕ) → All (λ k. k < n) (group_at groups place).numbers → All (λ k. k < n) (group_at groups2 place).numbers) → AreInGroups items next names written
relisted_back items next names members groups groups2 written place h same back long others out held below =
    let before : AreInGroups items next names groups = subst (λ (gs : List Members). AreInGroups items next names gs) (sym same) h in
    subst (λ (gs : List Members). AreInGroups items next names gs) (sym back) (relisted items next names groups groups2 place before long others out held below)

-- the numbers of messages that are there stand for the same messages
pub held_there : (items : List Shelved) (numbers : List ℕ) → held items (filter (λ n. is_some (message_of items n)) numbers) ≡ held items numbers
held_there items [] = refl
held_there items (n ∷ numbers) = by (message_of items n) refl (held_there items numbers)
  where
    by : (o : Option Message) → message_of items n ≡ o → held items (filter (λ k. is_some (message_of items k)) numbers) ≡ held items numbers → held items (filter (λ k. is_some (message_of items k)) (n ∷ numbers)) ≡ held items (n ∷ numbers)
    by None e ih =
        ap (λ (o : Option Message). held items (cond (is_some o) (n ∷ filter (λ k. is_some (message_of items k)) numbers) (filter (λ k. is_some (message_of items k)) numbers))) e
        ∙ ih
        ∙ ap (λ (o : Option Message). cons_option o (held items numbers)) (sym e)
    by (Some m) e ih =
        ap (λ (o : Option Message). held items (cond (is_some o) (n ∷ filter (λ k. is_some (message_of items k)) numbers) (filter (λ k. is_some (message_of items k)) numbers))) e
        ∙ ap (cons_option (message_of items n)) ih

pub all_filter : (P : ℕ → Type 0) (p : ℕ → Bool) (xs : List ℕ) → All P xs → All P (filter p xs)
all_filter P p [] h = h
all_filter P p (x ∷ xs) h = by (p x) (all_filter P p xs (All-tail P x xs h))
  where
    by : (b : Bool) → All P (filter p xs) → All P (cond b (x ∷ filter p xs) (filter p xs))
    by true ih = All-cons P x (filter p xs) (All-head P x xs h) ih
    by false ih = ih

-- a message is there where it stands with its mark
pub some_told : (o : Option Shelved) → is_some o ≡ is_some (option_map (λ (s : Shelved). s.message) o)
some_told None = refl
some_told (Some s) = refl
