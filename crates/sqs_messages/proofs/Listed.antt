-- Lists of a group's numbers, some of which may be stale, as a message leaves.
use Rattle.std.proofs.Common.{◌≡◌, ℕ, ◌+◌, ◌<◌, ◌≤◌, Bool, true, false, List, [], ◌∷◌, Option, Some, None, cond, filter, if◌then◌else◌, not, inl, inr, ◌⊎◌, arith, refl, ap, sym, ◌∙◌}
use Rattle.std.specs.Prelude.{IfSome, find, ◌≢◌}
use Rattle.std.specs.List.{cons_option}
use Rattle.std.specs.Option.{option_map}
use Rattle.std.proofs.lemmas.Bool.{cases_eq}
use Rattle.std.proofs.lemmas.Bool.Decides.{nat_tests}
use Rattle.sim_clock.specs.Firsts.{without}
use Rattle.sqs_message.specs.declared.message.Message.{Message}
use Rattle.sqs_model.specs.Progress.{Ascends}
use Rattle.sqs_model.specs.Queue.{has_number}
use Rattle.sqs_messages.specs.Heads.{in_group, of_group, told}
use Rattle.sqs_messages.specs.Slots.{Shelved, held, is_numbered, message_of, number_of}
use Rattle.sqs_messages.proofs.Firsts.{none_find}
use Rattle.sqs_messages.proofs.Led.{not_numbered, told_without}

-- every message but those of a number
abbrev pub others : ℕ → List Message → List Message
others n ms = filter (λ m. not (has_number n m)) ms

other_find : (n k : ℕ) (items : List Shelved) → k ≢ n → find (is_numbered k) (without (is_numbered n) items) ≡ find (is_numbered k) items
other_find n k [] h = refl
other_find n k (x ∷ items) h = by (other_find n k items h) (is_numbered n x) refl
  where
    by : find (is_numbered k) (without (is_numbered n) items) ≡ find (is_numbered k) items → (b : Bool) → is_numbered n x ≡ b
        → find (is_numbered k) (if b then items else x ∷ without (is_numbered n) items) ≡ find (is_numbered k) (x ∷ items)
    by ih true e =
        let no : is_numbered k x ≡ false = grind (arith, nat_tests, e, h) in
        sym (ap (λ b. cond b (Some x) (find (is_numbered k) items)) no)
    by ih false e = ap (λ o. cond (is_numbered k x) (Some x) o) ih

found_number : (k : ℕ) (items : List Shelved) → IfSome (message_of items k) (λ m. m.number ≡ k)
found_number k [] = tt
found_number k (x ∷ items) = by (found_number k items) (is_numbered k x) refl
  where
    by : IfSome (message_of items k) (λ m. m.number ≡ k) → (b : Bool) → is_numbered k x ≡ b → IfSome (option_map (λ (s : Shelved). s.message) (cond b (Some x) (find (is_numbered k) items))) (λ m. m.number ≡ k)
    by ih true e = grind (arith, nat_tests, e)
    by ih false e = ih

drop_one : (n k : ℕ) (o : Option Message) (ms : List Message) → IfSome o (λ m. m.number ≡ k) → k ≡ n → others n (cons_option o ms) ≡ others n ms
drop_one n k None ms h e = refl
drop_one n k (Some m) ms h e = let t : has_number n m ≡ true = grind (arith, nat_tests, h, e) in ap (λ b. cond (not b) (m ∷ others n ms) (others n ms)) t

keep_one : (n k : ℕ) (o : Option Message) (ms : List Message) → IfSome o (λ m. m.number ≡ k) → k ≢ n → others n (cons_option o ms) ≡ cons_option o (others n ms)
keep_one n k None ms h e = refl
keep_one n k (Some m) ms h e = let t : has_number n m ≡ false = grind (arith, nat_tests, h, e) in ap (λ b. cond (not b) (m ∷ others n ms) (others n ms)) t

-- what numbers hold after a message left
pub held_without : (n : ℕ) (items : List Shelved) (ns : List ℕ) → Ascends number_of 0 items → held (without (is_numbered n) items) ns ≡ others n (held items ns)
held_without n items [] a = refl
held_without n items (k ∷ ns) a = by (held_without n items ns a) (cases_eq k n)
  where
    by : held (without (is_numbered n) items) ns ≡ others n (held items ns) → (k ≡ n) ⊎ (k ≡ n → ⊥) → held (without (is_numbered n) items) (k ∷ ns) ≡ others n (held items (k ∷ ns))
    by ih (inl e) =
        let none : find (is_numbered k) (without (is_numbered n) items) ≡ None = ap (λ j. find (is_numbered j) (without (is_numbered n) items)) e ∙ none_find (is_numbered n) (without (is_numbered n) items) (not_numbered n items a) in
        ap (λ (o : Option Shelved). cons_option (option_map (λ (s : Shelved). s.message) o) (held (without (is_numbered n) items) ns)) none
        ∙ ih
        ∙ sym (drop_one n k (message_of items k) (held items ns) (found_number k items) e)
    by ih (inr h) =
        ap (λ (o : Option Shelved). cons_option (option_map (λ (s : Shelved). s.message) o) (held (without (is_numbered n) items) ns)) (other_find n k items h)
        ∙ ap (cons_option (message_of items k)) ih
        ∙ sym (keep_one n k (message_of items k) (held items ns) (found_number k items) h)

message_above : (low : ℕ) (ms : List Message) → Ascends (λ m. m.number) low ms → (n : ℕ) → n < low → filter (λ m. not (has_number n m)) ms ≡ ms
message_above low [] h n l = refl
message_above low (x ∷ ms) h n l =
    let t : has_number n x ≡ false = let from : low ≤ x.number = h.0 in grind (arith, nat_tests, from) in
    ap (λ b. cond (not b) (x ∷ others n ms) (others n ms)) t ∙ ap (λ ys. x ∷ ys) (message_above (x.number + 1) ms h.1 n (omega (arith, h.0)))

without_is : (n low : ℕ) (ms : List Message) → Ascends (λ m. m.number) low ms → without (has_number n) ms ≡ others n ms
without_is n low [] h = refl
without_is n low (x ∷ ms) h = by (without_is n (x.number + 1) ms h.1) (has_number n x) refl
  where
    by : without (has_number n) ms ≡ others n ms → (b : Bool) → has_number n x ≡ b → (if b then ms else x ∷ without (has_number n) ms) ≡ cond (not b) (x ∷ others n ms) (others n ms)
    by ih true e = let here : x.number ≡ n = grind (arith, nat_tests, e) in sym (message_above (x.number + 1) ms h.1 n (omega (arith, here)))
    by ih false e = ap (λ ys. x ∷ ys) ih

filter_turn : (p q : Message → Bool) (ms : List Message) → filter p (filter q ms) ≡ filter q (filter p ms)
filter_turn p q [] = refl
filter_turn p q (x ∷ ms) =
    side p (q x) (filter q ms) ∙ (λ j. both (p x) (q x) (filter_turn p q ms) j) ∙ sym (side q (p x) (filter p ms))
  where
    side : (r : Message → Bool) (c : Bool) (ys : List Message) → filter r (cond c (x ∷ ys) ys) ≡ cond c (cond (r x) (x ∷ filter r ys) (filter r ys)) (filter r ys)
    side r true ys = refl
    side r false ys = refl

    both : (b c : Bool) → filter p (filter q ms) ≡ filter q (filter p ms)
        → cond c (cond b (x ∷ filter p (filter q ms)) (filter p (filter q ms))) (filter p (filter q ms)) ≡ cond b (cond c (x ∷ filter q (filter p ms)) (filter q (filter p ms))) (filter q (filter p ms))
    both true true ih = ap (λ ys. x ∷ ys) ih
    both true false ih = ih
    both false true ih = ih
    both false false ih = ih

-- a group's messages after a message left
pub group_without : (g : Option (List ℕ)) (n : ℕ) (ms : List Message) → Ascends (λ m. m.number) 0 ms → of_group g (without (has_number n) ms) ≡ others n (of_group g ms)
group_without g n ms a = ap (of_group g) (without_is n 0 ms a) ∙ filter_turn (in_group g) (λ m. not (has_number n m)) ms

told_ascends : (low : ℕ) (items : List Shelved) → Ascends number_of low items → Ascends (λ m. m.number) low (told items)
told_ascends low [] h = tt
told_ascends low (x ∷ items) h = (h.0, told_ascends (number_of x + 1) items h.1)

-- a group's list needs no change as a message leaves, of this group or of another
pub listed_without : (g : Option (List ℕ)) (n : ℕ) (items : List Shelved) (ns : List ℕ) → Ascends number_of 0 items → held items ns ≡ of_group g (told items)
    → held (without (is_numbered n) items) ns ≡ of_group g (told (without (is_numbered n) items))
listed_without g n items ns a e =
    held_without n items ns a ∙ ap (others n) e ∙ sym (ap (of_group g) (told_without n items) ∙ group_without g n (told items) (told_ascends 0 items a))
