-- The counts of messages: with one more, without one, and with a change of one.
use Rattle.std.proofs.Common.{◌≡◌, ℕ, suc, nat_eq, ◌&&◌, ◌+◌, ◌<◌, ◌≤◌, Bool, true, false, List, [], ◌∷◌, ◌++◌, Option, Some, None, cond, get_or, if◌then◌else◌, length, arith, refl, ap, sym, ◌∙◌}
use Rattle.std.specs.Prelude.{All, count_by, find}
use Rattle.std.specs.Option.{option_map}
use Rattle.std.proofs.lemmas.Bool.{eqb-true}
use Rattle.std.proofs.lemmas.List.{length-map}
use Rattle.std.proofs.lemmas.List.Sums.{count_by-le-length, sum_by-cons}
use Rattle.sim_clock.specs.Firsts.{changed, without}
use Rattle.sqs_message.specs.declared.message.Message.{Message}
use Rattle.sqs_message.specs.declared.message.Place.{Place}
use Rattle.sqs_message.specs.declared.message.Place.TheVariants as places
use Rattle.sqs_model.proofs.Counts.{total, total_changed, total_push, total_without}
use Rattle.sqs_model.specs.Progress.{Ascends}
use Rattle.sqs_model.specs.Queue.{is_delayed, is_in_flight, is_visible}
use Rattle.sqs_messages.specs.declared.counts.Counts.{Counts}
use Rattle.sqs_messages.specs.Counted.{count_at, counts_of, with_one}
use Rattle.sqs_messages.specs.Heads.{told}
use Rattle.sim_index.specs.declared.mark.Mark.{Mark}
use Rattle.sim_index.specs.Marked.{Marked}
use Rattle.sim_index.specs.Marks.{node}
use Rattle.sqs_messages.specs.declared.slot.Slot.{Slot}
use Rattle.sqs_messages.specs.Shelves.{AreShelf}
use Rattle.sqs_messages.specs.Slots.{IsOn, Shelved, is_numbered, item_of, number_of, shelved, with_hosts}
use Rattle.sqs_messages.proofs.Shelves.{found}
use Rattle.sqs_messages.proofs.Wanted.{shelf_ascends, shelf_below}

-- the counts of no messages
abbrev no_counts : Counts
no_counts = record { visible = 0; in_flight = 0; delayed = 0 }

-- 1 for a message that a test picks, else 0
abbrev picked : (Message → Bool) → Shelved → ℕ
picked p s = cond (p s.message) 1 0

count_is : (p : Message → Bool) (items : List Shelved) → count_by p (told items) ≡ total (picked p) items
count_is p [] = refl
count_is p (s ∷ items) = sum_by-cons (λ m. cond (p m) 1 0) s.message (told items) ∙ ap (λ k. picked p s + k) (count_is p items)

-- the counts of messages and of one more
one_more : (place : Place) (rest whole : Counts)
    → rest.visible + cond (elim place as (λ _. Bool) [ places.Delayed ↦ false | places.Visible ↦ true | places.InFlight ↦ false ]) 1 0 ≡ whole.visible
    → rest.in_flight + cond (elim place as (λ _. Bool) [ places.Delayed ↦ false | places.Visible ↦ false | places.InFlight ↦ true ]) 1 0 ≡ whole.in_flight
    → rest.delayed + cond (elim place as (λ _. Bool) [ places.Delayed ↦ true | places.Visible ↦ false | places.InFlight ↦ false ]) 1 0 ≡ whole.delayed
    → with_one place rest ≡ whole
one_more places.Delayed rest whole v f d =
    let a : rest.visible ≡ whole.visible = omega (arith, v) in
    let b : rest.in_flight ≡ whole.in_flight = omega (arith, f) in
    (λ j. let c : Counts = record { visible = a j; in_flight = b j; delayed = d j } in c)
one_more places.Visible rest whole v f d =
    let b : rest.in_flight ≡ whole.in_flight = omega (arith, f) in
    let e : rest.delayed ≡ whole.delayed = omega (arith, d) in
    (λ j. let c : Counts = record { visible = v j; in_flight = b j; delayed = e j } in c)
one_more places.InFlight rest whole v f d =
    let a : rest.visible ≡ whole.visible = omega (arith, v) in
    let e : rest.delayed ≡ whole.delayed = omega (arith, d) in
    (λ j. let c : Counts = record { visible = a j; in_flight = f j; delayed = e j } in c)

-- with one more message
pub counts_push : (items : List Shelved) (s : Shelved) → with_one s.message.place (counts_of (told items)) ≡ counts_of (told (items ++ s ∷ []))
counts_push items s = one_more s.message.place (counts_of (told items)) (counts_of (told (items ++ s ∷ []))) (by is_visible) (by is_in_flight) (by is_delayed)
  where
    by : (p : Message → Bool) → count_by p (told items) + picked p s ≡ count_by p (told (items ++ s ∷ []))
    by p = omega (arith, count_is p items, count_is p (items ++ s ∷ []), total_push (picked p) items s)

-- with one more in front
counts_cons : (s : Shelved) (items : List Shelved) → with_one s.message.place (counts_of (told items)) ≡ counts_of (told (s ∷ items))
counts_cons s items = one_more s.message.place (counts_of (told items)) (counts_of (told (s ∷ items))) (by is_visible) (by is_in_flight) (by is_delayed)
  where
    by : (p : Message → Bool) → count_by p (told items) + picked p s ≡ count_by p (told (s ∷ items))
    by p = omega (arith, sum_by-cons (λ m. cond (p m) 1 0) s.message (told items))

module _ (n : ℕ) (items : List Shelved) (y : Shelved) (found : find (is_numbered n) items ≡ Some y) where
  -- without the message of a number
  pub counts_without : with_one y.message.place (counts_of (told (without (is_numbered n) items))) ≡ counts_of (told items)
  counts_without = one_more y.message.place (counts_of (told (without (is_numbered n) items))) (counts_of (told items)) (by is_visible) (by is_in_flight) (by is_delayed)
    where
      by : (p : Message → Bool) → count_by p (told (without (is_numbered n) items)) + picked p y ≡ count_by p (told items)
      by p = omega (arith, count_is p items, count_is p (without (is_numbered n) items), total_without (is_numbered n) (picked p) items y found)

  -- with a change of it
  pub counts_changed : (g : Shelved → Shelved) → with_one (g y).message.place (counts_of (told (without (is_numbered n) items))) ≡ counts_of (told (changed (is_numbered n) g items))
  counts_changed g = one_more (g y).message.place (counts_of (told (without (is_numbered n) items))) (counts_of (told (changed (is_numbered n) g items))) (by is_visible) (by is_in_flight) (by is_delayed)
    where
      by : (p : Message → Bool) → count_by p (told (without (is_numbered n) items)) + picked p (g y) ≡ count_by p (told (changed (is_numbered n) g items))
      by p =
          omega (
            arith,
            count_is p (changed (is_numbered n) g items),
            count_is p (without (is_numbered n) items),
            total_without (is_numbered n) (picked p) items y found,
            total_changed (is_numbered n) (picked p) g items y found,
          )

-- a change of marks changes no message
pub told_marked : (picks : Shelved → Bool) (hosts : ℕ) (items : List Shelved) → told (changed picks (with_hosts hosts) items) ≡ told items
told_marked picks hosts [] = refl
told_marked picks hosts (s ∷ items) = by (picks s) (told_marked picks hosts items)
  where
    by : (b : Bool) → told (changed picks (with_hosts hosts) items) ≡ told items
        → told (if b then with_hosts hosts s ∷ items else s ∷ changed picks (with_hosts hosts) items) ≡ s.message ∷ told items
    by true ih = refl
    by false ih = ap (λ ms. s.message ∷ ms) ih

-- counts are the same with one more at a place only if they were
pub with_one_same : (place : Place) (a b : Counts) → with_one place a ≡ with_one place b → a ≡ b
with_one_same places.Delayed a b e =
    let d : a.delayed ≡ b.delayed = omega (arith, ap (λ (c : Counts). c.delayed) e) in
    (λ j. let c : Counts = record { visible = (e j).visible; in_flight = (e j).in_flight; delayed = d j } in c)
with_one_same places.Visible a b e =
    let v : a.visible ≡ b.visible = omega (arith, ap (λ (c : Counts). c.visible) e) in
    (λ j. let c : Counts = record { visible = v j; in_flight = (e j).in_flight; delayed = (e j).delayed } in c)
with_one_same places.InFlight a b e =
    let f : a.in_flight ≡ b.in_flight = omega (arith, ap (λ (c : Counts). c.in_flight) e) in
    (λ j. let c : Counts = record { visible = (e j).visible; in_flight = f j; delayed = (e j).delayed } in c)

pub some_at : (place : Place) (rest whole : Counts) → with_one place rest ≡ whole → 1 ≤ count_at place whole
some_at places.Delayed rest whole e = omega (arith, ap (λ (c : Counts). c.delayed) e)
some_at places.Visible rest whole e = omega (arith, ap (λ (c : Counts). c.visible) e)
some_at places.InFlight rest whole e = omega (arith, ap (λ (c : Counts). c.in_flight) e)

none_at : (place : Place) → count_at place no_counts ≡ 0
none_at places.Delayed = refl
none_at places.Visible = refl
none_at places.InFlight = refl

all_zero : (c : Counts) → (nat_eq c.visible 0 && (nat_eq c.in_flight 0 && nat_eq c.delayed 0)) ≡ true → c ≡ no_counts
all_zero c e = by (nat_eq c.visible 0) (nat_eq c.in_flight 0) (nat_eq c.delayed 0) (eqb-true c.visible 0) (eqb-true c.in_flight 0) (eqb-true c.delayed 0) e
  where
    by : (v f d : Bool) → (v ≡ true → c.visible ≡ 0) → (f ≡ true → c.in_flight ≡ 0) → (d ≡ true → c.delayed ≡ 0) → (v && (f && d)) ≡ true → c ≡ no_counts
    by true true true x y z h = (λ j. let k : Counts = record { visible = x refl j; in_flight = y refl j; delayed = z refl j } in k)
    by true true false x y z h = cc
    by true false d x y z h = cc
    by false f d x y z h = cc

none_told : (items : List Shelved) → counts_of (told items) ≡ no_counts → items ≡ []
none_told [] e = refl
none_told (s ∷ items) e =
    let place = s.message.place in
    let some : 1 ≤ count_at place (counts_of (told (s ∷ items))) = some_at place (counts_of (told items)) (counts_of (told (s ∷ items))) (counts_cons s items) in
    let none : count_at place (counts_of (told (s ∷ items))) ≡ 0 = ap (count_at place) e ∙ none_at place in
    absurd (omega (arith, some, none))

-- no message is left where all counts are 0
pub none_left : (items : List Shelved) (c : Counts) → c ≡ counts_of (told items) → (nat_eq c.visible 0 && (nat_eq c.in_flight 0 && nat_eq c.delayed 0)) ≡ true → items ≡ []
none_left items c counted e = none_told items (sym counted ∙ all_zero c e)

-- no more messages stand at a place than there are
pub few_at : (place : Place) (items : List Shelved) → count_at place (counts_of (told items)) ≤ length items
few_at places.Delayed items = omega (arith, count_by-le-length is_delayed (told items), length-map items (λ (s : Shelved). s.message))
few_at places.Visible items = omega (arith, count_by-le-length is_visible (told items), length-map items (λ (s : Shelved). s.message))
few_at places.InFlight items = omega (arith, count_by-le-length is_in_flight (told items), length-map items (λ (s : Shelved). s.message))

pub fewer_without : (n : ℕ) (items : List Shelved) (y : Shelved) → find (is_numbered n) items ≡ Some y → length (without (is_numbered n) items) < length items
fewer_without n [] y e = cc
fewer_without n (s ∷ items) y e = by (is_numbered n s) (fewer_without n items y) e
  where
    by : (b : Bool) → (find (is_numbered n) items ≡ Some y → length (without (is_numbered n) items) < length items) → cond b (Some s) (find (is_numbered n) items) ≡ Some y
        → length (if b then items else s ∷ without (is_numbered n) items) < length (s ∷ items)
    by true ih k = omega arith
    by false ih k = omega (arith, ih k)

-- numbers that go up are no more than there are numbers
pub few_numbers : (low next : ℕ) (items : List Shelved) → low ≤ next → Ascends number_of low items → All (λ s. number_of s < next) items → length items + low ≤ next
few_numbers low next [] l a h = omega arith
few_numbers low next (s ∷ items) l a h =
    let less : number_of s < next = h 0 s (omega arith) in
    let rest : length items + (number_of s + 1) ≤ next = few_numbers (number_of s + 1) next items (omega arith) a.1 (λ k d m. h (suc k) d (omega arith)) in
    omega (arith, rest, a.0)

-- there are no more messages on a shelf than numbers were given out
pub few_shelved : (list : Marked Slot) (next : ℕ) → AreShelf list next → length (shelved list.values list.marks) ≤ next
few_shelved list next h =
    let items : List Shelved = shelved list.values list.marks in
    let few : length items + 0 ≤ next = few_numbers 0 next items (omega arith) (shelf_ascends list next h) (shelf_below list next h) in
    omega (arith, few)

stood_by : (o : Option Message) (mark : Mark) (group : ℕ) (was : Place) → Some was ≡ option_map (λ (m : Message). m.place) o
    → (s : Shelved) × (option_map (item_of mark group) o ≡ Some s) × (s.message.place ≡ was)
stood_by None mark group was e = cc
stood_by (Some m) mark group was e = (item_of mark group m, refl, cc)

-- the counts of a shelf on which the message of a number leaves its place
module _ {list : Marked Slot} {next n i : ℕ} {x : Slot} {slots : List Slot} (h : AreShelf list next) (on : IsOn slots n i) (is : slots ≡ list.values) (read : x ≡ get_or list.values i x)
    {was : Place} (stood : Some was ≡ option_map (λ (m : Message). m.place) x.message) {counts : Counts} (counted : counts ≡ counts_of (told (shelved list.values list.marks))) where
  abbrev items : List Shelved
  items = shelved list.values list.marks

  here : (s : Shelved) × (find (is_numbered n) (shelved list.values list.marks) ≡ Some s) × (s.message.place ≡ was)
  here = let s = stood_by x.message (node list.marks i) x.group was stood in (s.0, found h on is read ∙ s.1, s.2)

  without_one : with_one was (counts_of (told (without (is_numbered n) (shelved list.values list.marks)))) ≡ counts
  without_one =
      let s = here in
      ap (λ (p : Place). with_one p (counts_of (told (without (is_numbered n) items)))) (sym s.2) ∙ counts_without n items s.0 s.1 ∙ sym counted

  pub some_out : 1 ≤ count_at was counts
  some_out = some_at was (counts_of (told (without (is_numbered n) items))) counts without_one

  module _ (less : Counts) (left : with_one was less ≡ counts) where
    pub out_is : less ≡ counts_of (told (without (is_numbered n) (shelved list.values list.marks)))
    out_is = with_one_same was less (counts_of (told (without (is_numbered n) items))) (left ∙ sym without_one)

    pub few_in : (place : Place) → count_at place less < next
    few_in place =
        let s = here in
        let few : count_at place (counts_of (told (without (is_numbered n) items))) ≤ length (without (is_numbered n) items) = few_at place (without (is_numbered n) items) in
        let same : count_at place less ≡ count_at place (counts_of (told (without (is_numbered n) items))) = ap (count_at place) out_is in
        omega (arith, few, same, fewer_without n items s.0 s.1, few_shelved list next h)

    pub in_is : (more : Counts) (place : Place) (g : Shelved → Shelved) → ((s : Shelved) → (g s).message.place ≡ place) → more ≡ with_one place less → more ≡ counts_of (told (changed (is_numbered n) g (shelved list.values list.marks)))
    in_is more place g to e =
        let s = here in
        e
        ∙ ap (with_one place) out_is
        ∙ ap (λ (p : Place). with_one p (counts_of (told (without (is_numbered n) items)))) (sym (to s.0))
        ∙ counts_changed n items s.0 s.1 g
