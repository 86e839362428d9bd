-- What a FIFO queue may give, leader by leader.
use Rattle.std.proofs.Common.{◌≡◌, ℕ, zero, suc, ◌+◌, ◌≤◌, Bool, true, false, List, [], ◌∷◌, ◌++◌, Some, None, cond, filter, flat_map, length, map, take, refl, ap, sym, ◌∙◌, append_assoc, append-nil}
use Rattle.std.specs.Prelude.{All, find}
use Rattle.std.proofs.lemmas.List.{map-append, take_all, take_at}
use Rattle.std.proofs.lemmas.List.Elements.{All-head, All-tail}
use Rattle.sim_index.specs.Marks.{meets}
use Rattle.sqs_message.specs.declared.message.Message.{Message}
use Rattle.sqs_model.specs.Available.{by_group, open_from}
use Rattle.sqs_model.specs.Progress.{Ascends}
use Rattle.sqs_messages.specs.Heads.{AreLed, given_by, leads, told}
use Rattle.sqs_messages.specs.Slots.{Shelved, number_of, numbers_of}
use Rattle.sqs_messages.proofs.Leads.{by_leads}
use Rattle.sqs_messages.specs.Marked.{wanted}
use Rattle.sqs_messages.proofs.Wanted.{filter_all, filter_next, filter_none}
use Rattle.sqs_messages.proofs.Grouped.{told_ascends}

-- what was chosen so far, and what the groups of the leaders from a number on add
pub record IsChoice (items : List Shelved) (most : ℕ) (whole : List ℕ) (from : ℕ) (chosen : List ℕ) : Type 0 where
  pub so_far : take most (chosen ++ numbers_of (flat_map (given_by (told items)) (told (filter (wanted from 1) items)))) ≡ whole
  pub short : length chosen ≤ most

pub take_again : (n : ℕ) (xs ys : List ℕ) → take n (take n xs ++ ys) ≡ take n (xs ++ ys)
take_again zero xs ys = refl
take_again (suc n) [] ys = refl
take_again (suc n) (x ∷ xs) ys = ap (λ zs. x ∷ zs) (take_again n xs ys)

take_numbers : (n : ℕ) (ms : List Message) → take n (numbers_of ms) ≡ numbers_of (take n ms)
take_numbers zero ms = refl
take_numbers (suc n) [] = refl
take_numbers (suc n) (m ∷ ms) = ap (λ ns. m.number ∷ ns) (take_numbers n ms)

pub led_filter : (p : Message → Bool) (items : List Shelved) → All (λ s. meets 1 s.mark ≡ p s.message) items → told (filter (λ s. meets 1 s.mark) items) ≡ filter p (told items)
led_filter p [] h = refl
led_filter p (s ∷ items) h =
    let rest : told (filter (λ s. meets 1 s.mark) items) ≡ filter p (told items) = led_filter p items (All-tail (λ (x : Shelved). meets 1 x.mark ≡ p x.message) s items h) in
    by (meets 1 s.mark)
    ∙ (λ j. cond (All-head (λ (x : Shelved). meets 1 x.mark ≡ p x.message) s items h j) (s.message ∷ rest j) (rest j))
  where
    by : (b : Bool) → told (cond b (s ∷ filter (λ x. meets 1 x.mark) items) (filter (λ x. meets 1 x.mark) items)) ≡ cond b (s.message ∷ told (filter (λ x. meets 1 x.mark) items)) (told (filter (λ x. meets 1 x.mark) items))
    by true = refl
    by false = refl

-- at the start it is what the definitions give
pub choice_start : (items : List Shelved) (most : ℕ) → Ascends number_of 0 items → AreLed items
    → take most (numbers_of (flat_map (given_by (told items)) (told (filter (wanted 0 1) items)))) ≡ numbers_of (take most (by_group (open_from (told items) [] (told items))))
choice_start items most a led =
    ap (λ (xs : List Shelved). take most (numbers_of (flat_map (given_by (told items)) (told xs)))) (filter_all 1 items)
    ∙ ap (λ (ms : List Message). take most (numbers_of (flat_map (given_by (told items)) ms))) (led_filter (leads (told items)) items led)
    ∙ ap (λ (ms : List Message). take most (numbers_of ms)) (sym (by_leads (told items) (told_ascends 0 items a)))
    ∙ take_numbers most (by_group (open_from (told items) [] (told items)))

-- a leader's group is given
pub choice_more : (items : List Shelved) (most from : ℕ) (whole chosen after : List ℕ) (s : Shelved) → Ascends number_of 0 items → find (wanted from 1) items ≡ Some s → IsChoice items most whole from chosen
    → after ≡ take most (chosen ++ numbers_of (given_by (told items) s.message)) → length after ≤ most → IsChoice items most whole (number_of s + 1) after
choice_more items most from whole chosen after s a e h is short =
    let rest : List Message = flat_map (given_by (told items)) (told (filter (wanted (number_of s + 1) 1) items)) in
    let next : filter (wanted from 1) items ≡ s ∷ filter (wanted (number_of s + 1) 1) items = filter_next from 1 0 items s a e in
    record {
      so_far =
          ap (λ (ns : List ℕ). take most (ns ++ numbers_of rest)) is
          ∙ take_again most (chosen ++ numbers_of (given_by (told items) s.message)) (numbers_of rest)
          ∙ ap (take most) (append_assoc chosen (numbers_of (given_by (told items) s.message)) (numbers_of rest))
          ∙ ap (λ (ns : List ℕ). take most (chosen ++ ns)) (sym (map-append (λ (m : Message). m.number) (given_by (told items) s.message) rest))
          ∙ ap (λ (xs : List Shelved). take most (chosen ++ numbers_of (flat_map (given_by (told items)) (told xs)))) (sym next)
          ∙ h.so_far;
      short = short;
    }

-- no leader is left
pub choice_end : (items : List Shelved) (most from : ℕ) (whole chosen : List ℕ) → find (wanted from 1) items ≡ None → IsChoice items most whole from chosen → chosen ≡ whole
choice_end items most from whole chosen e h =
    sym (take_all most chosen h.short)
    ∙ ap (take most) (sym (append-nil chosen))
    ∙ ap (λ (xs : List Shelved). take most (chosen ++ numbers_of (flat_map (given_by (told items)) (told xs)))) (sym (filter_none (wanted from 1) items e))
    ∙ h.so_far

-- as many are chosen as may be
pub choice_full : (items : List Shelved) (most from : ℕ) (whole chosen : List ℕ) → length chosen ≡ most → IsChoice items most whole from chosen → chosen ≡ whole
choice_full items most from whole chosen e h = sym (take_at chosen (numbers_of (flat_map (given_by (told items)) (told (filter (wanted from 1) items)))) most e) ∙ h.so_far
