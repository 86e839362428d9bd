-- The messages and the table after a message left or changed.
use Rattle.std.proofs.Common.{◌≡◌, Bor, ℕ, ◌+◌, ◌<◌, ◌≤◌, Bool, true, false, List, [], ◌∷◌, Option, Some, None, cond, if◌then◌else◌, filter, length, map, ◌&&◌, arith, refl, ap, sym, subst, ◌∙◌}
use Rattle.std.specs.Prelude.{All, IfSome, find, is_some, ◌≢◌}
use Rattle.std.specs.Option.{option_map}
use Rattle.std.proofs.lemmas.List.{length-map}
use Rattle.std.proofs.lemmas.List.Elements.{All-cons, All-head, All-nil, All-tail, All-weaker}
use Rattle.sim_clock.specs.Firsts.{changed, without}
use Rattle.sim_clock.specs.Order.{least}
use Rattle.sim_clock.specs.declared.key.Key.{Key}
use Rattle.sim_clock.proofs.Lists.{absent_without}
use Rattle.sim_index.specs.declared.mark.Mark.{Mark}
use Rattle.sim_index.specs.Marks.{meets}
use Rattle.sqs_message.specs.declared.message.Message.{Message}
use Rattle.sqs_model.specs.Answers.{most_count}
use Rattle.sqs_model.specs.Dues.{message_dues}
use Rattle.sqs_model.specs.Progress.{Ascends}
use Rattle.sqs_model.specs.Queue.{has_number, is_in_flight, same_text}
use Rattle.sqs_model.specs.Texts.{same_text_decides}
use Rattle.sqs_messages.specs.declared.slot.State.{State}
use Rattle.sqs_messages.specs.Heads.{AreLed, IsLedBut, of_group, told}
use Rattle.sqs_messages.specs.Slots.{Shelved, held, is_numbered, number_of, restated}
use Rattle.sqs_messages.specs.Stored.{IsCounted, IsStored}
use Rattle.sqs_messages.proofs.Firsts.{some_of}
use Rattle.sqs_messages.proofs.Leads.{find_has}
use Rattle.sqs_messages.proofs.Led.{all_changed, led_changed, led_without, told_find}
use Rattle.sqs_messages.specs.declared.groups.members.Members.{Members}
use Rattle.sqs_messages.specs.Groups.{IsGrouped, IsPlaceOf, Kept, bit, group_at, group_by, in_flight_at, is_out, out_of, place_by}
use Rattle.sqs_messages.specs.Marked.{IsDue, restamped, unhosted}
use Rattle.sqs_messages.proofs.Grouped.{count_changed, count_without, few, grouped_changed, grouped_without, told_all, told_ascends}
use Rattle.sqs_messages.proofs.Places.{apart}
use Rattle.sqs_messages.proofs.Settled.{IsSettled, settled, settled_led}

-- what a change at the place of a group leaves
pub settle_at : (names : List (Option (List ℕ))) (groups groups2 : List Members) (items after : List Shelved) (g : Option (List ℕ)) (i : ℕ) (was is : Bool) → i ≡ place_by names g → i < length names
    → map unhosted after ≡ map unhosted items → ((j : ℕ) → j ≢ i → group_at groups2 j ≡ group_at groups j) → (group_at groups2 i).out + bit was ≡ (group_at groups i).out + bit is
    → held items (group_at groups2 i).numbers ≡ held items (group_at groups i).numbers → ((n : ℕ) → All (λ k. k < n) (group_at groups i).numbers → All (λ k. k < n) (group_at groups2 i).numbers)
    → ((h : Option (List ℕ)) → All (IsLedBut items h) items → held items (group_at groups i).numbers ≡ of_group h (told items) → (group_at groups2 i).out ≡ out_of h (told items) → AreLed after)
    → IsSettled items after g was is (group_by names groups) (group_by names groups2)
settle_at names groups groups2 items after g i was is e l kept others out same below led =
    record {
      kept = kept;
      others = λ h n. others (place_by names h) (λ k. apart names g h (omega (arith, l, e)) n (k ∙ e));
      out = subst (λ j. (group_at groups2 j).out + bit was ≡ (group_at groups j).out + bit is) e out;
      held_as = subst (λ j. held items (group_at groups2 j).numbers ≡ held items (group_at groups j).numbers) e same;
      below = subst (λ j. (n : ℕ) → All (λ k. k < n) (group_at groups j).numbers → All (λ k. k < n) (group_at groups2 j).numbers) e below;
      led = λ but listed count. led g but (ap (λ j. held items (group_at groups j).numbers) e ∙ listed) (ap (λ j. (group_at groups2 j).out) e ∙ count);
    }

-- what holds of messages, of what is due of them and of the places of their groups stays as hosts change
pub all_kept : (Q : Message × Option Key × ℕ → Type 0) (items after : List Shelved) → map unhosted after ≡ map unhosted items → All (λ s. Q (unhosted s)) items → All (λ s. Q (unhosted s)) after
all_kept Q items [] e h = All-nil (λ (s : Shelved). Q (unhosted s))
all_kept Q [] (y ∷ ys) e h = cc
all_kept Q (x ∷ xs) (y ∷ ys) e h =
    let here : unhosted x ≡ unhosted y = cc in
    let rest : map unhosted ys ≡ map unhosted xs = cc in
    All-cons (λ (s : Shelved). Q (unhosted s)) y ys (subst Q here (All-head (λ (s : Shelved). Q (unhosted s)) x xs h)) (all_kept Q xs ys rest (All-tail (λ (s : Shelved). Q (unhosted s)) x xs h))

-- the same with what is due told of the pair
pub record IsDuePair (site retention : ℕ) (p : Message × Option Key × ℕ) : Type 0 where
  pub due : p.1 ≡ least (message_dues site retention p.0)
  pub counted : IsCounted p.0

pub dues_kept : (site retention : ℕ) (items after : List Shelved) → map unhosted after ≡ map unhosted items → All (IsDue site retention) items → All (IsDue site retention) after
dues_kept site retention items after e h k d l =
    let pairs : All (λ s. IsDuePair site retention (unhosted s)) after = all_kept (IsDuePair site retention) items after e (λ i c m. record { due = (h i c m).due; counted = (h i c m).counted }) in
    record { due = (pairs k d l).due; counted = (pairs k d l).counted }

pub placed_kept : (names : List (Option (List ℕ))) (items after : List Shelved) → map unhosted after ≡ map unhosted items → All (λ s. IsPlaceOf names s.message.group s.group) items → All (λ s. IsPlaceOf names s.message.group s.group) after
placed_kept names = all_kept (λ p. IsPlaceOf names p.0.group p.2)

pub no_and : (b : Bool) → bit (b && false) ≡ 0
no_and true = refl
no_and false = refl

module _ (n next : ℕ) (items : List Shelved) (s : Shelved) (old : Option (List ℕ) → Kept) (a : Ascends number_of 0 items) (found : find (is_numbered n) items ≡ Some s) (led : AreLed items) (grouped : (h : Option (List ℕ)) → IsGrouped items next h (old h)) where
  pub removed_grouped : (after : List Shelved) (new : Option (List ℕ) → Kept) → IsSettled (without (is_numbered n) items) after s.message.group (is_in_flight s.message) false old new → (h : Option (List ℕ)) → IsGrouped after next h (new h)
  removed_grouped after new st h =
      settled (without (is_numbered n) items) after next s.message.group (is_in_flight s.message) false old new st
      (λ h k same less. grouped_without h n next items s (old h) k a found (grouped h) same (omega (arith, less, no_and (same_text h s.message.group)))) h

  pub removed_led : (after : List Shelved) (new : Option (List ℕ) → Kept) → IsSettled (without (is_numbered n) items) after s.message.group (is_in_flight s.message) false old new → AreLed after
  removed_led after new st =
      settled_led (without (is_numbered n) items) after next s.message.group (is_in_flight s.message) false old new st
      (λ h k same less. grouped_without h n next items s (old h) k a found (grouped h) same (omega (arith, less, no_and (same_text h s.message.group))))
      (led_without n items s a led found)

  module _ (state : State) (mark : Mark) where
    pub changed_grouped : (after : List Shelved) (new : Option (List ℕ) → Kept)
        → IsSettled (changed (is_numbered n) (λ (x : Shelved). let t : Shelved = record x { message = restated state x.message; mark = mark } in t) items) after s.message.group (is_in_flight s.message) (in_flight_at state.place) old new
        → (h : Option (List ℕ)) → IsGrouped after next h (new h)
    changed_grouped after new st h =
        settled (changed (is_numbered n) (λ (x : Shelved). let t : Shelved = record x { message = restated state x.message; mark = mark } in t) items) after next s.message.group (is_in_flight s.message) (in_flight_at state.place) old new st
        (λ h k same less. grouped_changed h n next items s (λ (x : Shelved). let t : Shelved = record x { message = restated state x.message; mark = mark } in t) (restated state) (old h) k a found (λ x. refl) (λ m. refl) (λ m. refl) (grouped h) same less) h

    pub changed_led : (after : List Shelved) (new : Option (List ℕ) → Kept) → meets 1 mark ≡ false
        → IsSettled (changed (is_numbered n) (λ (x : Shelved). let t : Shelved = record x { message = restated state x.message; mark = mark } in t) items) after s.message.group (is_in_flight s.message) (in_flight_at state.place) old new
        → AreLed after
    changed_led after new off st =
        settled_led (changed (is_numbered n) (λ (x : Shelved). let t : Shelved = record x { message = restated state x.message; mark = mark } in t) items) after next s.message.group (is_in_flight s.message) (in_flight_at state.place) old new st
        (λ h k same less. grouped_changed h n next items s (λ (x : Shelved). let t : Shelved = record x { message = restated state x.message; mark = mark } in t) (restated state) (old h) k a found (λ x. refl) (λ m. refl) (λ m. refl) (grouped h) same less)
        (led_changed n (λ (x : Shelved). let t : Shelved = record x { message = restated state x.message; mark = mark } in t) (restated state) items s (λ x. refl) (λ m. refl) (λ m. refl) led found off)

pub some_read : (r : Option (Bor Message)) (o : Option Shelved) → option_map (λ (m : Bor Message). m.now) r ≡ option_map (λ (s : Shelved). s.message) o → is_some r ≡ is_some o
some_read None None e = refl
some_read None (Some s) e = cc
some_read (Some m) None e = cc
some_read (Some m) (Some s) e = refl

pub filter_few : (p : Message → Bool) (ms : List Message) → length (filter p ms) ≤ length ms
filter_few p [] = omega arith
filter_few p (x ∷ ms) = let l : length (filter p ms) ≤ length ms = filter_few p ms in elim (p x) as (λ b. length (cond b (x ∷ filter p ms) (filter p ms)) ≤ length (x ∷ ms)) [ true ↦ omega (arith, l) | false ↦ omega (arith, l) ]

-- whether a message is of its own group and in flight
own_out : (m : Message) (b : Bool) → is_in_flight m ≡ b → is_out m.group m ≡ b
own_out m b e = (λ j. (same_text_decides m.group m.group).1 refl j && e j)

-- a group with a message in flight counts one
pub out_some : (n next : ℕ) (items : List Shelved) (s : Shelved) (k : Kept) → IsGrouped items next s.message.group k → find (is_numbered n) items ≡ Some s → is_in_flight s.message ≡ true → 1 ≤ k.out
out_some n next items s k h e t =
    let count : length (filter (is_out s.message.group) (without (has_number n) (told items))) + bit (is_out s.message.group s.message) ≡ length (filter (is_out s.message.group) (told items)) =
    count_without (is_out s.message.group) (has_number n) (told items) s.message (told_find n items s e) in
    let one : bit (is_out s.message.group s.message) ≡ 1 = ap bit (own_out s.message true t) in
    omega (arith, count, one, h.counted)

-- there is room to count one more
pub out_room : (n next : ℕ) (items : List Shelved) (s : Shelved) (state : State) (mark : Mark) (k : Kept) → IsGrouped items next s.message.group k → find (is_numbered n) items ≡ Some s
    → is_in_flight s.message ≡ false → in_flight_at state.place ≡ true → Ascends number_of 0 items → All (λ x. number_of x < next) items → k.out + 1 ≤ next
out_room n next items s state mark k h e f t a below =
    let count : length (filter (is_out s.message.group) (changed (has_number n) (restated state) (told items))) + bit (is_out s.message.group s.message) ≡ length (filter (is_out s.message.group) (told items)) + bit (is_out s.message.group (restated state s.message)) =
    count_changed (is_out s.message.group) (has_number n) (restated state) (told items) s.message (told_find n items s e) in
    let none : bit (is_out s.message.group s.message) ≡ 0 = ap bit (own_out s.message false f) in
    let one : bit (is_out s.message.group (restated state s.message)) ≡ 1 = ap bit (own_out (restated state s.message) true t) in
    let short : length (filter (is_out s.message.group) (changed (has_number n) (restated state) (told items))) ≤ length (changed (has_number n) (restated state) (told items)) = filter_few (is_out s.message.group) (changed (has_number n) (restated state) (told items)) in
    let long : length (changed (has_number n) (restated state) (told items)) ≡ length items = length_changed (has_number n) (restated state) (told items) ∙ length-map items (λ (x : Shelved). x.message) in
    let all : 0 + length items ≤ next = few 0 next items a below (omega arith) in
    omega (arith, count, none, one, short, long, all, h.counted)
  where
    length_changed : (p : Message → Bool) (f : Message → Message) (ms : List Message) → length (changed p f ms) ≡ length ms
    length_changed p f [] = refl
    length_changed p f (x ∷ ms) = let l : length (changed p f ms) ≡ length ms = length_changed p f ms in elim (p x) as (λ b. length (if b then f x ∷ ms else x ∷ changed p f ms) ≡ length (x ∷ ms)) [ true ↦ refl | false ↦ omega (arith, l) ]

-- what is due of messages of which one took another state
pub put_dues : (site retention n : ℕ) (items : List Shelved) (m : Message) (state : State) (due : Option Key) → Some m ≡ option_map (λ (s : Shelved). s.message) (find (is_numbered n) items) → due ≡ least (message_dues site retention (restated state m)) → state.receives ≤ most_count → state.received ≤ most_count
    → All (IsDue site retention) items → All (IsDue site retention) (changed (is_numbered n) (restamped state due) items)
put_dues site retention n items m state due found is receives received h =
    let s = some_of (λ (s : Shelved). s.message) (find (is_numbered n) items) m found in
    all_changed (IsDue site retention) (is_numbered n) (restamped state due) items s.0 s.1
    (record {
      due = is ∙ ap (λ (x : Message). least (message_dues site retention (restated state x))) (sym s.2);
      counted = record { enqueued = (find_has (IsDue site retention) (is_numbered n) items s.0 h s.1).counted.enqueued; receives = receives; received = received };
    }) h

-- a message that is found is within the limits
pub found_counted : (site retention n : ℕ) (items : List Shelved) (m : Message) → Some m ≡ option_map (λ (s : Shelved). s.message) (find (is_numbered n) items) → All (IsDue site retention) items → IsCounted m
found_counted site retention n items m found h =
    let s = some_of (λ (s : Shelved). s.message) (find (is_numbered n) items) m found in
    subst IsCounted s.2 (find_has (IsDue site retention) (is_numbered n) items s.0 h s.1).counted

-- so is what is read of it
pub read_counted : (site retention n : ℕ) (items : List Shelved) (r : Option (Bor Message)) → option_map (λ (m : Bor Message). m.now) r ≡ option_map (λ (s : Shelved). s.message) (find (is_numbered n) items) → All (IsDue site retention) items → IfSome r (λ m. IsCounted m.now)
read_counted site retention n items None e h = tt
read_counted site retention n items (Some m) e h = found_counted site retention n items m.now e h

-- messages within the limits, in the order of their numbers, all below the next one
pub stored_of : (site retention next : ℕ) (items : List Shelved) → All (IsDue site retention) items → Ascends number_of 0 items → All (λ s. number_of s < next) items → IsStored (told items) next
stored_of site retention next items dues ordered below =
    record {
      counted = told_all IsCounted items (All-weaker (IsDue site retention) (λ (s : Shelved). IsCounted s.message) (λ s h. h.counted) items dues);
      ordered = told_ascends 0 items ordered;
      given_out = told_all (λ (m : Message). m.number < next) items below;
    }
