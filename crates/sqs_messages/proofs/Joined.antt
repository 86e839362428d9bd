-- The messages and the table after one came.
use Rattle.std.proofs.Common.{◌≡◌, ℕ, ◌+◌, ◌<◌, ◌≤◌, Bool, true, false, List, [], ◌∷◌, ◌++◌, Option, cond, filter, length, map, ◌&&◌, get_or, set, arith, refl, ap, sym, subst, ◌∙◌}
use Rattle.std.specs.Prelude.{All, ◌==◌, ◌≢◌}
use Rattle.std.proofs.lemmas.Bool.Decides.{nat_tests}
use Rattle.std.proofs.lemmas.List.{length-map, map-append}
use Rattle.std.proofs.lemmas.List.Elements.{filter-append}
use Rattle.sim_index.specs.Marks.{meets}
use Rattle.sqs_model.specs.Progress.{Ascends}
use Rattle.sqs_model.specs.Queue.{is_in_flight, same_text}
use Rattle.sqs_model.specs.Texts.{decided_symm, same_text_decides}
use Rattle.sqs_messages.specs.Heads.{AreLed, IsLedBut, begins, in_group, of_group, told}
use Rattle.sqs_messages.specs.Slots.{Shelved, held, number_of}
use Rattle.sqs_messages.proofs.Led.{led_pushed}
use Rattle.sqs_messages.specs.declared.groups.members.Members.{Members}
use Rattle.sqs_messages.specs.Groups.{AreGrouped, IsGrouped, Kept, bit, group_at, group_by, is_out, out_of, place_by}
use Rattle.sqs_messages.specs.Marked.{unhosted}
use Rattle.sqs_messages.proofs.Calls.{filter_few, no_and}
use Rattle.sqs_messages.proofs.Grouped.{few, grouped_pushed}
use Rattle.sqs_messages.proofs.Places.{apart, group_at_is, group_same}
use Rattle.sqs_messages.proofs.Settled.{IsSettled, settled, settled_led}

-- a group with one more number, where a message is of it
abbrev pub with_number : Bool → ℕ → Kept → Kept
with_number b n k = cond b (record { numbers = k.numbers ++ n ∷ []; out = k.out }) k

numbers_is : (b : Bool) (n : ℕ) (k : Kept) → (with_number b n k).numbers ≡ cond b (k.numbers ++ n ∷ []) k.numbers
numbers_is true n k = refl
numbers_is false n k = refl

out_is : (b : Bool) (n : ℕ) (k : Kept) → (with_number b n k).out ≡ k.out
out_is true n k = refl
out_is false n k = refl

module _ (names : List (Option (List ℕ))) (groups groups2 : List Members) (items before after : List Shelved) (next place : ℕ) (s : Shelved) (pushed : before ≡ items ++ s ∷ []) (number : s.message.number ≡ next) (at : place ≡ place_by names s.message.group) (within : place < length names)
    (all : All (λ x. number_of x < next) items) (led : AreLed items) (grouped : AreGrouped items next names groups) (off : begins (of_group s.message.group (told (items ++ s ∷ []))) s.message ≡ false → meets 1 s.mark ≡ false)
    (kept : map unhosted after ≡ map unhosted before) (others : (j : ℕ) → j ≢ place → group_at groups2 j ≡ group_at groups j)
    (out : (group_at groups2 place).out ≡ (group_at groups place).out + bit (is_in_flight s.message))
    (same : held before (group_at groups2 place).numbers ≡ held before ((group_at groups place).numbers ++ s.message.number ∷ []))
    (below : (n : ℕ) → All (λ k. k < n) ((group_at groups place).numbers ++ s.message.number ∷ []) → All (λ k. k < n) (group_at groups2 place).numbers)
    (leading : (g : Option (List ℕ)) → All (IsLedBut before g) before → held before ((group_at groups place).numbers ++ s.message.number ∷ []) ≡ of_group g (told before)
    → (group_at groups2 place).out ≡ out_of g (told before) → AreLed after) where
  abbrev old : Option (List ℕ) → Kept
  old h = with_number (same_text h s.message.group) s.message.number (group_by names groups h)

  self : same_text s.message.group s.message.group ≡ true
  self = (same_text_decides s.message.group s.message.group).1 refl

  own : old s.message.group ≡ with_number true s.message.number (group_at groups place)
  own = ap (λ b. with_number b s.message.number (group_by names groups s.message.group)) self ∙ ap (λ j. with_number true s.message.number (group_at groups j)) (sym at)

  settled_one : IsSettled before after s.message.group false (is_in_flight s.message) old (group_by names groups2)
  settled_one =
      record {
        kept = kept;
        others = λ h n. others (place_by names h) (λ k. apart names s.message.group h (omega (arith, within, at)) n (k ∙ at))
            ∙ sym (ap (λ b. with_number b s.message.number (group_by names groups h)) (decided_symm same_text same_text_decides h s.message.group ∙ n));
        out = ap (λ n. n + 0) (ap (λ j. (group_at groups2 j).out) (sym at) ∙ out) ∙ omega arith ∙ ap (λ (k : Kept). k.out + bit (is_in_flight s.message)) (sym own);
        held_as = ap (λ j. held before (group_at groups2 j).numbers) (sym at) ∙ same ∙ ap (λ (k : Kept). held before k.numbers) (sym own);
        below = λ n h. subst (λ j. All (λ k. k < n) (group_at groups2 j).numbers) at (below n (subst (λ (k : Kept). All (λ i. i < n) k.numbers) own h));
        led = λ but listed count. leading s.message.group but (ap (λ (k : Kept). held before k.numbers) (sym own) ∙ listed) (ap (λ j. (group_at groups2 j).out) at ∙ count);
      }

  mid : (h : Option (List ℕ)) (k : Kept) → k.numbers ≡ (old h).numbers → k.out + bit (same_text h s.message.group && false) ≡ (old h).out + bit (same_text h s.message.group && is_in_flight s.message) → IsGrouped before (next + 1) h k
  mid h k e o =
      let less : (old h).out ≡ (group_by names groups h).out = out_is (same_text h s.message.group) s.message.number (group_by names groups h) in
      let more : k.out ≡ (group_by names groups h).out + bit (is_out h s.message) = omega (arith, o, no_and (same_text h s.message.group), less) in
      let numbers : k.numbers ≡ cond (in_group h s.message) ((group_by names groups h).numbers ++ s.message.number ∷ []) (group_by names groups h).numbers =
      e ∙ numbers_is (same_text h s.message.group) s.message.number (group_by names groups h) in
      subst (λ xs. IsGrouped xs (next + 1) h k) (sym pushed) (grouped_pushed h next items s (group_by names groups h) k number all (grouped h) numbers more)

  -- each group's list and count are right again
  pub joined_grouped : AreGrouped after (next + 1) names groups2
  joined_grouped = settled before after (next + 1) s.message.group false (is_in_flight s.message) old (group_by names groups2) settled_one mid

  -- and so are the marks of leaders
  pub joined_led : AreLed after
  joined_led = settled_led before after (next + 1) s.message.group false (is_in_flight s.message) old (group_by names groups2) settled_one mid (subst (λ xs. All (IsLedBut xs s.message.group) xs) (sym pushed) (led_pushed items s led off))

-- a message that comes to a group whose list is empty is its first
pub first_come : (next : ℕ) (items : List Shelved) (s : Shelved) (k : Kept) → IsGrouped items next s.message.group k → k.numbers ≡ [] → begins (of_group s.message.group (told (items ++ s ∷ []))) s.message ≡ true
first_come next items s k h e =
    let g : Option (List ℕ) = s.message.group in
    let none : of_group g (told items) ≡ [] = sym h.listed ∙ ap (held items) e in
    let own : in_group g s.message ≡ true = (same_text_decides g g).1 refl in
    let one : of_group g (told (items ++ s ∷ [])) ≡ s.message ∷ [] =
    ap (of_group g) (map-append (λ (x : Shelved). x.message) items (s ∷ []))
    ∙ filter-append (in_group g) (told items) (s.message ∷ [])
    ∙ (λ j. none j ++ cond (own j) (s.message ∷ []) []) in
    let same : (s.message.number == s.message.number) ≡ true = grind (arith, nat_tests) in
    ap (λ ms. begins ms s.message) one ∙ same

-- a group counts no more messages than there are numbers
pub out_few : (g : Option (List ℕ)) (next : ℕ) (items : List Shelved) (k : Kept) → IsGrouped items next g k → Ascends number_of 0 items → All (λ x. number_of x < next) items → k.out ≤ next
out_few g next items k h a below =
    let short : length (filter (is_out g) (told items)) ≤ length (told items) = filter_few (is_out g) (told items) in
    let all : 0 + length items ≤ next = few 0 next items a below (omega arith) in
    omega (arith, short, all, h.counted, length-map items (λ (x : Shelved). x.message))

-- the group at a place to whose list a number was added
pub numbered_at : (groups : List Members) (place n : ℕ) (d y : Members) → place < length groups → y.numbers.items ≡ (get_or groups place d).numbers.items ++ n ∷ [] → y.out ≡ (get_or groups place d).out → group_at (set groups place y) place ≡ with_number true n (group_at groups place)
numbered_at groups place n d y l e o =
    group_same groups place y l
    ∙ (λ j. let k : Kept = record { numbers = e j; out = o j } in k)
    ∙ ap (with_number true n) (sym (group_at_is groups place d l))
