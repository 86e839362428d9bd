-- The messages that are wanted, one after another.
use Rattle.std.proofs.Common.{◌≡◌, ℕ, zero, suc, ◌+◌, ◌-◌, ◌<◌, ◌≤◌, Bool, true, false, List, [], ◌∷◌, ◌++◌, Option, Some, None, cond, filter, map, take, ◌&&◌, ◌||◌, get_or, arith, refl, ap, sym, ◌∙◌, append_assoc, append-nil}
use Rattle.std.specs.Prelude.{All, IfSome, find, is_some, nat_le}
use Rattle.std.specs.List.{AllZip, cons_option, list_any}
use Rattle.std.specs.Option.{option_map}
use Rattle.std.proofs.lemmas.Bool.Decides.{nat_tests}
use Rattle.std.proofs.lemmas.List.Elements.{All-cons, All-head, All-nil, All-tail, All-weaker}
use Rattle.sim_index.specs.declared.mark.Mark.{Mark}
use Rattle.sim_index.specs.Marked.{Marked}
use Rattle.sim_index.specs.Marks.{meets, no_mark, node}
use Rattle.sqs_message.specs.declared.message.Message.{Message}
use Rattle.sqs_model.specs.Progress.{Ascends}
use Rattle.sqs_messages.specs.declared.slot.Slot.{Slot}
use Rattle.sqs_messages.specs.Shelves.{AreShelf}
use Rattle.sqs_messages.specs.Slots.{IsNamed, Shelved, item_of, number_and_group, number_of, shelved}
use Rattle.sqs_messages.proofs.Firsts.{none_of, some_of}
use Rattle.sqs_messages.proofs.Leads.{find_has}
use Rattle.sqs_messages.specs.Marked.{wanted}
use Rattle.sqs_messages.proofs.Shelves.{all_shelved, zip_at}

lower : (a b : ℕ) (xs : List Shelved) → a ≤ b → Ascends number_of b xs → Ascends number_of a xs
lower a b [] l h = tt
lower a b (x ∷ xs) l h = (omega (arith, h.0), h.1)

pub above : (low : ℕ) (xs : List Shelved) → Ascends number_of low xs → All (λ s. low ≤ number_of s) xs
above low [] h = All-nil (λ (s : Shelved). low ≤ number_of s)
above low (x ∷ xs) h = All-cons (λ (s : Shelved). low ≤ number_of s) x xs h.0 (All-weaker (λ (s : Shelved). number_of x + 1 ≤ number_of s) (λ (s : Shelved). low ≤ number_of s) (λ s l. omega (arith, h.0)) xs (above (number_of x + 1) xs h.1))

shown_ascends : (low : ℕ) (mark : Mark) (group n : ℕ) (o : Option Message) (rest : List Shelved) → IfSome o (λ m. m.number ≡ n) → low ≤ n → Ascends number_of (n + 1) rest
    → Ascends number_of low (cons_option (option_map (item_of mark group) o) rest)
shown_ascends low mark group n None rest h l r = lower low (n + 1) rest (omega arith) r
shown_ascends low mark group n (Some m) rest h l r = (omega (arith, h), lower (m.number + 1) (n + 1) rest (omega (arith, h)) r)

items_ascend : (low : ℕ) (slots : List Slot) (marks : List Mark) → AllZip IsNamed slots marks → Ascends (λ s. s.number) low slots → Ascends number_of low (shelved slots marks)
items_ascend low [] marks h a = tt
items_ascend low (s ∷ slots) [] h a = absurd h
items_ascend low (s ∷ slots) (m ∷ marks) h a = shown_ascends low m s.group s.number s.message (shelved slots marks) h.0.number a.0 (items_ascend (s.number + 1) slots marks h.1 a.1)

pub shelf_ascends : (list : Marked Slot) (next : ℕ) → AreShelf list next → Ascends number_of 0 (shelved list.values list.marks)
shelf_ascends list next h = items_ascend 0 list.values list.marks h.named h.ordered

-- the numbers on a shelf are below the next
pub shelf_below : (list : Marked Slot) (next : ℕ) → AreShelf list next → All (λ s. number_of s < next) (shelved list.values list.marks)
shelf_below list next h =
    all_shelved (λ (s : Shelved). number_of s < next) list.values list.marks
    (λ k d l. let s : Slot = get_or list.values k d in by s.message (node list.marks k) s.group s.number (zip_at IsNamed list.values list.marks k d no_mark h.named l).number (h.below k d l))
  where
    by : (o : Option Message) (mark : Mark) (group n : ℕ) → IfSome o (λ m. m.number ≡ n) → n < next → IfSome (option_map (item_of mark group) o) (λ (s : Shelved). number_of s < next)
    by None mark group n e l = tt
    by (Some m) mark group n e l = omega (arith, e)

later : (from hosts : ℕ) (s : Shelved) → number_of s < from → wanted from hosts s ≡ false
later from hosts s l = let t : nat_le from s.message.number ≡ false = grind (arith, nat_tests) in ap (λ b. b && meets hosts s.mark) t

from_same : (a b hosts : ℕ) (s : Shelved) → a ≤ number_of s → b ≤ number_of s → wanted a hosts s ≡ wanted b hosts s
from_same a b hosts s l m =
    let t : nat_le a s.message.number ≡ true = grind (arith, nat_tests) in
    let u : nat_le b s.message.number ≡ true = grind (arith, nat_tests) in
    ap (λ c. c && meets hosts s.mark) (t ∙ sym u)

filter_same : (p q : Shelved → Bool) (xs : List Shelved) → All (λ s. p s ≡ q s) xs → filter p xs ≡ filter q xs
filter_same p q [] h = refl
filter_same p q (x ∷ xs) h = (λ j. cond (All-head (λ (s : Shelved). p s ≡ q s) x xs h j) (x ∷ filter_same p q xs (All-tail (λ (s : Shelved). p s ≡ q s) x xs h) j) (filter_same p q xs (All-tail (λ (s : Shelved). p s ≡ q s) x xs h) j))

pub filter_none : (p : Shelved → Bool) (xs : List Shelved) → find p xs ≡ None → filter p xs ≡ []
filter_none p [] e = refl
filter_none p (x ∷ xs) e = by (filter_none p xs) (p x) refl
  where
    by : (find p xs ≡ None → filter p xs ≡ []) → (b : Bool) → p x ≡ b → filter p (x ∷ xs) ≡ []
    by ih true k = let no : Some x ≡ None = sym (ap (λ b. cond b (Some x) (find p xs)) k) ∙ e in cc
    by ih false k = ap (λ b. cond b (x ∷ filter p xs) (filter p xs)) k ∙ ih (sym (ap (λ b. cond b (Some x) (find p xs)) k) ∙ e)

-- the first that is wanted, and those after it
pub filter_next : (from hosts low : ℕ) (xs : List Shelved) (s : Shelved) → Ascends number_of low xs → find (wanted from hosts) xs ≡ Some s
    → filter (wanted from hosts) xs ≡ s ∷ filter (wanted (number_of s + 1) hosts) xs
filter_next from hosts low [] s h e = cc
filter_next from hosts low (x ∷ xs) s h e = by (filter_next from hosts (number_of x + 1) xs s h.1) (wanted from hosts x) refl (nat_from (wanted from hosts x) refl)
  where
    nat_from : (b : Bool) → wanted from hosts x ≡ b → b ≡ true → from ≤ number_of x
    nat_from b k t = let first : nat_le from x.message.number ≡ true = and_first (nat_le from x.message.number) (meets hosts x.mark) (k ∙ t) in grind (arith, nat_tests, first)
      where
        and_first : (a c : Bool) → (a && c) ≡ true → a ≡ true
        and_first true c e = refl
        and_first false c e = e

    after : All (λ y. number_of x + 1 ≤ number_of y) xs
    after = above (number_of x + 1) xs h.1

    by : (find (wanted from hosts) xs ≡ Some s → filter (wanted from hosts) xs ≡ s ∷ filter (wanted (number_of s + 1) hosts) xs)
        → (b : Bool) → wanted from hosts x ≡ b → (b ≡ true → from ≤ number_of x) → filter (wanted from hosts) (x ∷ xs) ≡ s ∷ filter (wanted (number_of s + 1) hosts) (x ∷ xs)
    by ih true k l =
        let found : Some x ≡ Some s = sym (ap (λ b. cond b (Some x) (find (wanted from hosts) xs)) k) ∙ e in
        let same : x ≡ s = cc in
        let skip : wanted (number_of x + 1) hosts x ≡ false = later (number_of x + 1) hosts x (omega arith) in
        ap (λ b. cond b (x ∷ filter (wanted from hosts) xs) (filter (wanted from hosts) xs)) k
        ∙ ap (λ ys. x ∷ ys) (filter_same (wanted from hosts) (wanted (number_of x + 1) hosts) xs (All-weaker (λ (y : Shelved). number_of x + 1 ≤ number_of y) (λ (y : Shelved). wanted from hosts y ≡ wanted (number_of x + 1) hosts y) (λ y m. from_same from (number_of x + 1) hosts y (omega (arith, l refl)) m) xs after))
        ∙ ap (λ ys. x ∷ ys) (sym (ap (λ b. cond b (x ∷ filter (wanted (number_of x + 1) hosts) xs) (filter (wanted (number_of x + 1) hosts) xs)) skip))
        ∙ ap (λ (y : Shelved). y ∷ filter (wanted (number_of y + 1) hosts) (x ∷ xs)) same
    by ih false k l =
        let found : find (wanted from hosts) xs ≡ Some s = sym (ap (λ b. cond b (Some x) (find (wanted from hosts) xs)) k) ∙ e in
        let high : number_of x + 1 ≤ number_of s = find_has (λ (y : Shelved). number_of x + 1 ≤ number_of y) (wanted from hosts) xs s after found in
        let skip : wanted (number_of s + 1) hosts x ≡ false = later (number_of s + 1) hosts x (omega arith) in
        ap (λ b. cond b (x ∷ filter (wanted from hosts) xs) (filter (wanted from hosts) xs)) k
        ∙ ih found
        ∙ ap (λ ys. s ∷ ys) (sym (ap (λ b. cond b (x ∷ filter (wanted (number_of s + 1) hosts) xs) (filter (wanted (number_of s + 1) hosts) xs)) skip))

-- from the start on all are wanted that are on the hosts
pub filter_all : (hosts : ℕ) (xs : List Shelved) → filter (wanted 0 hosts) xs ≡ filter (λ s. meets hosts s.mark) xs
filter_all hosts xs = filter_same (wanted 0 hosts) (λ s. meets hosts s.mark) xs (λ k d l. let s : Shelved = get_or xs k d in let t : nat_le 0 s.message.number ≡ true = grind (arith, nat_tests) in ap (λ c. c && meets hosts s.mark) t)

-- whether any is on the hosts is whether one is found that is wanted from the start on
pub any_wanted : (hosts : ℕ) (xs : List Shelved) → list_any (λ s. meets hosts s.mark) xs ≡ is_some (find (wanted 0 hosts) xs)
any_wanted hosts [] = refl
any_wanted hosts (s ∷ xs) =
    let from : nat_le 0 s.message.number ≡ true = grind (arith, nat_tests) in
    by (meets hosts s.mark) (any_wanted hosts xs) ∙ sym (ap (λ c. is_some (cond (c && meets hosts s.mark) (Some s) (find (wanted 0 hosts) xs))) from)
  where
    by : (b : Bool) → list_any (λ x. meets hosts x.mark) xs ≡ is_some (find (wanted 0 hosts) xs) → (b || list_any (λ x. meets hosts x.mark) xs) ≡ is_some (cond b (Some s) (find (wanted 0 hosts) xs))
    by true ih = refl
    by false ih = ih

-- numbers so far, and those of what is wanted after them
abbrev pub IsChosen : List Shelved → ℕ → ℕ → ℕ → ℕ → List ℕ → Type 0
IsChosen items hosts most i from numbers = numbers ++ map number_of (take (most - i) (filter (wanted from hosts) items)) ≡ map number_of (take most (filter (λ s. meets hosts s.mark) items))

pub chosen_more : (items : List Shelved) (hosts most i from : ℕ) (numbers : List ℕ) (number group : ℕ) → Ascends number_of 0 items → i < most → Some (number, group) ≡ option_map number_and_group (find (wanted from hosts) items)
    → IsChosen items hosts most i from numbers → IsChosen items hosts most (i + 1) (number + 1) (numbers ++ number ∷ [])
chosen_more items hosts most i from numbers number group a l e h =
    let s = some_of number_and_group (find (wanted from hosts) items) (number, group) e in
    let n : number_of s.0 ≡ number = ap (λ (p : ℕ × ℕ). p.0) s.2 in
    let rest : List Shelved = filter (wanted (number + 1) hosts) items in
    let next : filter (wanted from hosts) items ≡ s.0 ∷ rest = filter_next from hosts 0 items s.0 a s.1 ∙ ap (λ k. s.0 ∷ filter (wanted (k + 1) hosts) items) n in
    let count : most - i ≡ suc (most - (i + 1)) = omega arith in
    append_assoc numbers (number ∷ []) (map number_of (take (most - (i + 1)) rest))
    ∙ ap (λ k. numbers ++ (k ∷ map number_of (take (most - (i + 1)) rest))) (sym n)
    ∙ sym (ap (λ k. numbers ++ map number_of (take k (filter (wanted from hosts) items))) count ∙ ap (λ ys. numbers ++ map number_of (take (suc (most - (i + 1))) ys)) next)
    ∙ h

pub chosen_end : (items : List Shelved) (hosts most i from : ℕ) (numbers : List ℕ) → None ≡ option_map number_and_group (find (wanted from hosts) items)
    → IsChosen items hosts most i from numbers → numbers ≡ map number_of (take most (filter (λ s. meets hosts s.mark) items))
chosen_end items hosts most i from numbers e h =
    sym (append-nil numbers)
    ∙ ap (λ ys. numbers ++ map number_of ys) (sym (take_nil (most - i)))
    ∙ ap (λ ys. numbers ++ map number_of (take (most - i) ys)) (sym (filter_none (wanted from hosts) items (none_of number_and_group (find (wanted from hosts) items) e)))
    ∙ h
  where
    take_nil : (n : ℕ) → take {A = Shelved} n [] ≡ []
    take_nil zero = refl
    take_nil (suc n) = refl
