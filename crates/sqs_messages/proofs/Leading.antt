-- What the groups of leaders give.
use Rattle.std.proofs.Common.{◌≡◌, ℕ, zero, suc, ◌+◌, ◌<◌, ◌≤◌, Bool, true, false, List, [], ◌∷◌, ◌++◌, Option, Some, None, cond, filter, flat_map, length, not, take, ◌&&◌, arith, refl, ap, sym, subst, ◌∙◌}
use Rattle.std.specs.Prelude.{find, is_some, nat_le, ◌==◌}
use Rattle.std.proofs.lemmas.Bool.Decides.{nat_tests}
use Rattle.sim_clock.specs.Firsts.{is_empty}
use Rattle.sim_clock.proofs.Booleans.{and_first, and_second}
use Rattle.sim_index.specs.Marks.{meets}
use Rattle.sqs_message.specs.declared.message.Message.{Message}
use Rattle.sqs_message.specs.declared.message.Place.{Place}
use Rattle.sqs_message.specs.declared.message.Place.TheVariants as places
use Rattle.sqs_model.specs.Available.{available_at, by_group, open_from}
use Rattle.sqs_model.specs.Progress.{Ascends}
use Rattle.sqs_model.specs.Queue.{is_delayed, is_visible}
use Rattle.sqs_redrive.specs.declared.settings.Kind.{Kind}
use Rattle.sqs_redrive.specs.declared.settings.Kind.TheVariants.{Fifo, Standard}
use Rattle.sqs_messages.specs.Heads.{AreLed, any_out, given_by, in_group, is_first, kept_until, leads, told, until_delayed}
use Rattle.sqs_messages.specs.Slots.{Shelved, is_numbered, number_of}
use Rattle.sqs_messages.proofs.Leads.{by_leads, find_has}
use Rattle.sqs_messages.specs.Marked.{wanted}
use Rattle.sqs_messages.proofs.Wanted.{filter_all, filter_next, filter_none}
use Rattle.sqs_model.specs.Valid.{IsFifo}
use Rattle.sqs_messages.proofs.Fronts.{found_here}
use Rattle.sqs_messages.proofs.Grouped.{told_ascends}
use Rattle.sqs_messages.proofs.Leaders.{led_filter}

-- the one that a test picks first is found by its number, and passes
pub found_number : (p : Shelved → Bool) (low : ℕ) (items : List Shelved) (s : Shelved) → Ascends number_of low items → find p items ≡ Some s → (find (is_numbered (number_of s)) items ≡ Some s) × (p s ≡ true) × (low ≤ number_of s)
found_number p low [] s a e = cc
found_number p low (x ∷ items) s a e = by (found_number p (number_of x + 1) items s a.1) (p x) refl
  where
    by : (find p items ≡ Some s → (find (is_numbered (number_of s)) items ≡ Some s) × (p s ≡ true) × (number_of x + 1 ≤ number_of s)) → (b : Bool) → p x ≡ b
        → (find (is_numbered (number_of s)) (x ∷ items) ≡ Some s) × (p s ≡ true) × (low ≤ number_of s)
    by ih true k =
        let found : Some x ≡ Some s = sym (ap (λ b. cond b (Some x) (find p items)) k) ∙ e in
        let same : x ≡ s = cc in
        let here : is_numbered (number_of s) x ≡ true = let n : number_of x ≡ number_of s = ap number_of same in grind (arith, nat_tests, n) in
        (ap (λ b. cond b (Some x) (find (is_numbered (number_of s)) items)) here ∙ found, subst (λ y. p y ≡ true) same k, subst (λ y. low ≤ number_of y) same a.0)
    by ih false k =
        let rest = ih (sym (ap (λ b. cond b (Some x) (find p items)) k) ∙ e) in
        let high : number_of x + 1 ≤ number_of s = rest.2 in
        let away : is_numbered (number_of s) x ≡ false = grind (arith, nat_tests, high) in
        (ap (λ b. cond b (Some x) (find (is_numbered (number_of s)) items)) away ∙ rest.0, rest.1, omega (arith, a.0, high))

visible_now : (m : Message) → is_visible m ≡ true → is_delayed m ≡ false
visible_now m e = by m.place e
  where
    by : (p : Place) → (elim p as (λ _. Bool) [ places.Delayed ↦ false | places.Visible ↦ true | places.InFlight ↦ false ]) ≡ true
        → (elim p as (λ _. Bool) [ places.Delayed ↦ true | places.Visible ↦ false | places.InFlight ↦ false ]) ≡ false
    by places.Delayed e = sym e
    by places.Visible e = refl
    by places.InFlight e = refl

filter_front : (q : Message → Bool) (ms : List Message) (x : Message) → find q ms ≡ Some x → (rest : List Message) × (filter q ms ≡ x ∷ rest)
filter_front q [] x e = cc
filter_front q (y ∷ ms) x e = by (filter_front q ms x) (q y) refl
  where
    by : (find q ms ≡ Some x → (rest : List Message) × (filter q ms ≡ x ∷ rest)) → (b : Bool) → q y ≡ b → (rest : List Message) × (filter q (y ∷ ms) ≡ x ∷ rest)
    by ih true k =
        let found : Some y ≡ Some x = sym (ap (λ b. cond b (Some y) (find q ms)) k) ∙ e in
        let same : y ≡ x = cc in
        (filter q ms, ap (λ b. cond b (y ∷ filter q ms) (filter q ms)) k ∙ ap (λ z. z ∷ filter q ms) same)
    by ih false k =
        let rest = ih (sym (ap (λ b. cond b (Some y) (find q ms)) k) ∙ e) in
        (rest.0, ap (λ b. cond b (y ∷ filter q ms) (filter q ms)) k ∙ rest.1)

-- the group of a message that leads gives that one at least
leading_gives : (items : List Shelved) (s : Shelved) → Ascends number_of 0 items → find (is_numbered (number_of s)) items ≡ Some s → leads (told items) s.message ≡ true → 1 ≤ length (given_by (told items) s.message)
leading_gives items s a e l = by (find (in_group s.message.group) (told items)) refl first
  where
    visible : is_visible s.message ≡ true
    visible = and_visible (is_visible s.message) (not (any_out s.message.group (told items))) (is_first (told items) s.message) l
      where
        and_visible : (x y z : Bool) → (x && y && z) ≡ true → x ≡ true
        and_visible true y z e = refl
        and_visible false y z e = e

    first : is_first (told items) s.message ≡ true
    first = and_last (is_visible s.message) (not (any_out s.message.group (told items))) (is_first (told items) s.message) l
      where
        and_last : (x y z : Bool) → (x && y && z) ≡ true → z ≡ true
        and_last true true z e = e
        and_last true false z e = cc
        and_last false y z e = cc

    by : (o : Option Message) → find (in_group s.message.group) (told items) ≡ o → elim o as (λ _. Bool) [ None ↦ false | Some x ↦ x.number == s.message.number ] ≡ true
        → 1 ≤ length (given_by (told items) s.message)
    by None f t = cc
    by (Some x) f t =
        let here = found_here (in_group s.message.group) 0 items x a f in
        let equal : x.number ≡ s.message.number = grind (arith, nat_tests, t) in
        let both : Some here.0 ≡ Some s = sym here.2 ∙ ap (λ n. find (is_numbered n) items) equal ∙ e in
        let same : here.0 ≡ s = cc in
        let one : x ≡ s.message = sym here.1 ∙ ap (λ (y : Shelved). y.message) same in
        let front = filter_front (in_group s.message.group) (told items) x f in
        let now : is_delayed x ≡ false = ap is_delayed one ∙ visible_now s.message visible in
        let given : given_by (told items) s.message ≡ x ∷ until_delayed front.0 = ap until_delayed front.1 ∙ ap (λ b. kept_until b x (until_delayed front.0)) now in
        let count : length (given_by (told items) s.message) ≡ length (x ∷ until_delayed front.0) = ap length given in
        omega (arith, count)

-- the same of the first that is marked to lead, from a number on
pub leader_gives : (from : ℕ) (items : List Shelved) (s : Shelved) → Ascends number_of 0 items → AreLed items → find (wanted from 1) items ≡ Some s → 1 ≤ length (given_by (told items) s.message)
leader_gives from items s a led e =
    let found = found_number (wanted from 1) 0 items s a e in
    let marked : meets 1 s.mark ≡ true = and_second (nat_le from s.message.number) (meets 1 s.mark) found.1 in
    leading_gives items s a found.0 (sym (find_has (λ (x : Shelved). meets 1 x.mark ≡ leads (told items) x.message) (wanted from 1) items s led e) ∙ marked)

-- and it is of that number at least
pub leader_from : (from : ℕ) (items : List Shelved) (s : Shelved) → Ascends number_of 0 items → find (wanted from 1) items ≡ Some s → from ≤ number_of s
leader_from from items s a e =
    let found = found_number (wanted from 1) 0 items s a e in
    let late : nat_le from s.message.number ≡ true = and_first (nat_le from s.message.number) (meets 1 s.mark) found.1 in
    grind (arith, nat_tests, late)

-- what a FIFO queue may give, by marks
pub given_in_turn : (items : List Shelved) → Ascends number_of 0 items → AreLed items → by_group (open_from (told items) [] (told items)) ≡ flat_map (given_by (told items)) (told (filter (wanted 0 1) items))
given_in_turn items a led =
    by_leads (told items) (told_ascends 0 items a)
    ∙ ap (λ (ms : List Message). flat_map (given_by (told items)) ms) (sym (led_filter (leads (told items)) items led))
    ∙ ap (λ (xs : List Shelved). flat_map (given_by (told items)) (told xs)) (sym (filter_all 1 items))

not_empty : (ms ns : List Message) → 1 ≤ length ms → is_empty (ms ++ ns) ≡ false
not_empty [] ns l = absurd (omega (arith, l))
not_empty (m ∷ ms) ns l = refl

-- whether it may give any
pub any_given : (items : List Shelved) (o : Option Shelved) → Ascends number_of 0 items → AreLed items → find (wanted 0 1) items ≡ o → is_some o ≡ not (is_empty (by_group (open_from (told items) [] (told items))))
any_given items None a led e =
    sym (ap (λ (ms : List Message). not (is_empty ms)) (given_in_turn items a led)
    ∙ ap (λ (xs : List Shelved). not (is_empty (flat_map (given_by (told items)) (told xs)))) (filter_none (wanted 0 1) items e))
any_given items (Some s) a led e =
    sym (ap (λ (ms : List Message). not (is_empty ms)) (given_in_turn items a led)
    ∙ ap (λ (xs : List Shelved). not (is_empty (flat_map (given_by (told items)) (told xs)))) (filter_next 0 1 0 items s a e)
    ∙ ap not (not_empty (given_by (told items) s.message) (flat_map (given_by (told items)) (told (filter (wanted (number_of s + 1) 1) items))) (leader_gives 0 items s a led e)))

-- so many of a list are no more, and more than those in front where there is room and more
pub take_short : (n : ℕ) (xs : List ℕ) → length (take n xs) ≤ n
take_short zero xs = omega arith
take_short (suc n) [] = omega arith
take_short (suc n) (x ∷ xs) = let l : length (take n xs) ≤ n = take_short n xs in omega (arith, l)

pub take_more : (n : ℕ) (xs ys : List ℕ) → length xs < n → 1 ≤ length ys → length xs + 1 ≤ length (take n (xs ++ ys))
take_more zero xs ys l m = absurd (omega (arith, l))
take_more (suc n) [] [] l m = absurd (omega (arith, m))
take_more (suc n) [] (y ∷ ys) l m = omega arith
take_more (suc n) (x ∷ xs) ys l m = let r : length xs + 1 ≤ length (take n (xs ++ ys)) = take_more n xs ys (omega (arith, l)) m in omega (arith, r)
