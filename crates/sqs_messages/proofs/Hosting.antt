-- A standard queue's messages, and what their hosts tell.
use Rattle.std.proofs.Common.{◌≡◌, ℕ, zero, suc, ◌%◌, ◌≤◌, length, Bool, true, false, List, [], ◌∷◌, Some, cond, filter, if◌then◌else◌, map, take, ◌&&◌, not, bit_and, arith, refl, ap, sym, ◌∙◌}
use Rattle.std.specs.Prelude.{All, count_by, find, is_some, min, ◌==◌}
use Rattle.std.proofs.lemmas.Bool.Decides.{nat_tests}
use Rattle.std.proofs.lemmas.List.Sums.{length-filter}
use Rattle.std.proofs.lemmas.List.Elements.{All-cons, All-head, All-tail}
use Rattle.sim_clock.specs.Firsts.{changed, is_empty}
use Rattle.sim_index.specs.declared.mark.Mark.{Mark}
use Rattle.sim_index.specs.Marks.{meets}
use Rattle.sqs_message.specs.declared.message.Message.{Message}
use Rattle.sqs_message.specs.declared.message.Place.{Place}
use Rattle.sqs_message.specs.declared.message.Place.TheVariants as places
use Rattle.sqs_model.specs.Available.{has_host}
use Rattle.sqs_model.specs.Queue.{is_visible}
use Rattle.sqs_messages.proofs.Few.{take_few}
use Rattle.sqs_messages.proofs.Bits.{host_bit, no_meets}
use Rattle.sqs_messages.specs.Marked.{wanted}
use Rattle.sqs_messages.proofs.Wanted.{filter_all}
use Rattle.sqs_messages.specs.declared.slot.State.{State}
use Rattle.sqs_messages.specs.Heads.{told}
use Rattle.sqs_messages.specs.Marked.{IsHosted, host_mark}
use Rattle.sqs_messages.specs.Slots.{Shelved, is_numbered, number_of, restated}

-- whether a message may be received that lies on a host of a set
abbrev pub seen : ℕ → ℕ → Message → Bool
seen hosts set m = is_visible m && has_host set (m.number % hosts)

meets_when : (p : Place) (set hosts number : ℕ) → not (bit_and (host_mark hosts number p) set == 0) ≡ ((elim p as (λ _. Bool) [ places.Delayed ↦ false | places.Visible ↦ true | places.InFlight ↦ false ]) && has_host set (number % hosts))
meets_when places.Delayed set hosts number = no_meets set
meets_when places.Visible set hosts number = host_bit set (number % hosts)
meets_when places.InFlight set hosts number = no_meets set

meets_seen : (hosts set : ℕ) (s : Shelved) → IsHosted hosts s → meets set s.mark ≡ seen hosts set s.message
meets_seen hosts set s e = ap (λ (h : ℕ). not (bit_and h set == 0)) e ∙ meets_when s.message.place set hosts s.message.number

pub seen_filter : (hosts set : ℕ) (items : List Shelved) → All (IsHosted hosts) items → told (filter (λ s. meets set s.mark) items) ≡ filter (seen hosts set) (told items)
seen_filter hosts set [] h = refl
seen_filter hosts set (s ∷ items) h =
    by (meets set s.mark) (seen hosts set s.message)
    (meets_seen hosts set s (All-head (IsHosted hosts) s items h))
    (seen_filter hosts set items (All-tail (IsHosted hosts) s items h))
  where
    cons : (b : Bool) (kept : List Shelved) (ms : List Message) → told kept ≡ ms → told (cond b (s ∷ kept) kept) ≡ cond b (s.message ∷ ms) ms
    cons true kept ms e = ap (λ ys. s.message ∷ ys) e
    cons false kept ms e = e

    by : (b c : Bool) → b ≡ c → told (filter (λ x. meets set x.mark) items) ≡ filter (seen hosts set) (told items)
        → told (cond b (s ∷ filter (λ x. meets set x.mark) items) (filter (λ x. meets set x.mark) items)) ≡ cond c (s.message ∷ filter (seen hosts set) (told items)) (filter (seen hosts set) (told items))
    by b c e ih = cons b (filter (λ x. meets set x.mark) items) (filter (seen hosts set) (told items)) ih ∙ ap (λ d. cond d (s.message ∷ filter (seen hosts set) (told items)) (filter (seen hosts set) (told items))) e

numbers_taken : (k : ℕ) (items : List Shelved) → map number_of (take k items) ≡ map (λ m. m.number) (take k (told items))
numbers_taken zero items = refl
numbers_taken (suc k) [] = refl
numbers_taken (suc k) (s ∷ items) = ap (λ ns. s.message.number ∷ ns) (numbers_taken k items)

-- the first messages that are seen
pub first_seen : (hosts set most : ℕ) (items : List Shelved) → All (IsHosted hosts) items
    → map number_of (take most (filter (λ s. meets set s.mark) items)) ≡ map (λ m. m.number) (take most (filter (seen hosts set) (told items)))
first_seen hosts set most items h =
    numbers_taken most (filter (λ s. meets set s.mark) items) ∙ ap (λ ms. map (λ (m : Message). m.number) (take most ms)) (seen_filter hosts set items h)

-- no more messages are seen than are visible
few_seen : (hosts set : ℕ) (items : List Shelved) → All (IsHosted hosts) items → length (filter (λ s. meets set s.mark) items) ≤ length (filter is_visible (told items))
few_seen hosts set [] h = omega arith
few_seen hosts set (s ∷ items) h =
    by (meets set s.mark) (is_visible s.message) (has_host set (s.message.number % hosts))
    (meets_seen hosts set s (All-head (IsHosted hosts) s items h))
    (few_seen hosts set items (All-tail (IsHosted hosts) s items h))
  where
    by : (b v k : Bool) → b ≡ (v && k) → length (filter (λ x. meets set x.mark) items) ≤ length (filter is_visible (told items))
        → length (cond b (s ∷ filter (λ x. meets set x.mark) items) (filter (λ x. meets set x.mark) items)) ≤ length (cond v (s.message ∷ filter is_visible (told items)) (filter is_visible (told items)))
    by true true k e ih = omega (arith, ih)
    by true false k e ih = cc
    by false true k e ih = omega (arith, ih)
    by false false k e ih = omega (arith, ih)

-- where so many are visible, to ask for more finds no more
pub visible_taken : (hosts set most : ℕ) (items : List Shelved) → All (IsHosted hosts) items
    → take (min most (count_by is_visible (told items))) (filter (λ s. meets set s.mark) items) ≡ take most (filter (λ s. meets set s.mark) items)
visible_taken hosts set most items h =
    let few : length (filter (λ s. meets set s.mark) items) ≤ count_by is_visible (told items) = omega (arith, few_seen hosts set items h, length-filter is_visible (told items)) in
    take_few most (count_by is_visible (told items)) (filter (λ s. meets set s.mark) items) few

some_found : (p : Shelved → Bool) (items : List Shelved) → is_some (find p items) ≡ not (is_empty (told (filter p items)))
some_found p [] = refl
some_found p (s ∷ items) = by (p s) (some_found p items)
  where
    by : (b : Bool) → is_some (find p items) ≡ not (is_empty (told (filter p items))) → is_some (cond b (Some s) (find p items)) ≡ not (is_empty (told (cond b (s ∷ filter p items) (filter p items))))
    by true ih = refl
    by false ih = ih

-- whether a message is seen
pub any_seen : (hosts set : ℕ) (items : List Shelved) → All (IsHosted hosts) items
    → is_some (find (wanted 0 set) items) ≡ not (is_empty (filter (seen hosts set) (told items)))
any_seen hosts set items h =
    some_found (wanted 0 set) items
    ∙ ap (λ (xs : List Shelved). not (is_empty (told xs))) (filter_all set items)
    ∙ ap (λ (ms : List Message). not (is_empty ms)) (seen_filter hosts set items h)

-- a message that takes another state is marked with its host
pub put_hosted : (hosts n : ℕ) (state : State) (mark : Mark) (items : List Shelved) → mark.flags ≡ host_mark hosts n state.place → All (IsHosted hosts) items
    → All (IsHosted hosts) (changed (is_numbered n) (λ (s : Shelved). let t : Shelved = record s { message = restated state s.message; mark = mark } in t) items)
put_hosted hosts n state mark [] e h = h
put_hosted hosts n state mark (s ∷ items) e h = by (put_hosted hosts n state mark items e) (is_numbered n s) refl
  where
    f : Shelved → Shelved
    f x = record x { message = restated state x.message; mark = mark }

    by : (All (IsHosted hosts) items → All (IsHosted hosts) (changed (is_numbered n) f items)) → (b : Bool) → is_numbered n s ≡ b → All (IsHosted hosts) (if is_numbered n s then f s ∷ items else s ∷ changed (is_numbered n) f items)
    by ih true k =
        let same : s.message.number ≡ n = grind (arith, nat_tests, k) in
        rw k (All-cons (IsHosted hosts) (f s) items (e ∙ ap (λ (j : ℕ). host_mark hosts j state.place) (sym same)) (All-tail (IsHosted hosts) s items h))
    by ih false k = rw k (All-cons (IsHosted hosts) s (changed (is_numbered n) f items) (All-head (IsHosted hosts) s items h) (ih (All-tail (IsHosted hosts) s items h)))
