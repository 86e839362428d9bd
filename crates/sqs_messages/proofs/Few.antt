-- No more messages are given than are visible, and no more are visible than ever came.
use Rattle.std.proofs.Common.{◌≡◌, ℕ, ◌+◌, ◌<◌, ◌≤◌, inl, inr, Bool, true, false, List, [], ◌∷◌, cond, filter, length, map, nat_eq, take, ◌&&◌, ◌||◌, arith, refl, ap, subst, sym, ◌∙◌}
use Rattle.std.specs.Prelude.{All, count_by, min, not, ◌≢◌}
use Rattle.std.specs.List.{AllByRecursion, IsDistinct, list_any}
use Rattle.std.proofs.Math.Nat.{min-eq_left, min-eq_right}
use Rattle.std.proofs.lemmas.Bool.{cases_lt, or_right}
use Rattle.std.proofs.lemmas.Bool.Decides.{nat_tests}
use Rattle.std.proofs.lemmas.Cmp.{nat_eq_equiv}
use Rattle.std.proofs.lemmas.List.{length-map, take_all}
use Rattle.std.proofs.lemmas.List.Elements.{All-cons, All-head, All-nil, All-tail, All-weaker}
use Rattle.std.proofs.lemmas.List.Sums.{count_by-le-length, length-filter}
use Rattle.std.proofs.lemmas.Map.Made.{length-le_from_is_member}
use Rattle.sim_clock.specs.Firsts.{kept_when}
use Rattle.sqs_message.specs.declared.message.Message.{Message}
use Rattle.sqs_model.specs.Available.{by_group, firsts, open_from}
use Rattle.sqs_model.specs.Progress.{Ascends, Differ}
use Rattle.sqs_model.specs.Queue.{is_delayed, is_in_flight, is_visible, same_group}
use Rattle.sqs_messages.specs.Heads.{told}
use Rattle.sqs_messages.specs.Slots.{Shelved, number_of}
use Rattle.sqs_model.proofs.Grouped.{all_groups, apart_available}

-- where a list has no more, to ask for more finds no more
pub take_few : {X : Type 0} (n few : ℕ) (xs : List X) → length xs ≤ few → take (min n few) xs ≡ take n xs
take_few n few xs l =
    elim (cases_lt n few) [
      | inl low ↦ ap (λ k. take k xs) (min-eq_left (omega (arith, low)))
      | inr high ↦ ap (λ k. take k xs) (min-eq_right high) ∙ take_all few xs l ∙ sym (take_all n xs (omega (arith, l, high)))
    ]

abbrev numbers : List Message → List ℕ
numbers ms = map (λ m. m.number) ms

-- whether a number is among some
abbrev IsAmong : List ℕ → ℕ → Type 0
IsAmong ns n = list_any (nat_eq n) ns ≡ true

other_numbers : (n : ℕ) (ms : List Message) → All (λ m. m.number ≢ n) ms → AllByRecursion (λ k. nat_eq n k ≡ false) (numbers ms)
other_numbers n [] h = tt
other_numbers n (m ∷ ms) h =
    let other : m.number ≢ n = All-head (λ (x : Message). x.number ≢ n) m ms h in
    (grind (arith, nat_tests, other), other_numbers n ms (All-tail (λ (x : Message). x.number ≢ n) m ms h))

distinct : (ms : List Message) → Differ (λ m. m.number) ms → IsDistinct nat_eq (numbers ms)
unfolding IsDistinct
distinct [] h = tt
distinct (m ∷ ms) h = (other_numbers m.number ms h.0, distinct ms h.1)

own_numbers : (ms : List Message) → All (λ m. IsAmong (numbers ms) m.number) ms
own_numbers [] = All-nil (λ (m : Message). IsAmong [] m.number)
own_numbers (m ∷ ms) =
    let first : nat_eq m.number m.number ≡ true = grind (arith, nat_tests) in
    All-cons (λ (x : Message). IsAmong (numbers (m ∷ ms)) x.number) m ms (ap (λ b. b || list_any (nat_eq m.number) (numbers ms)) first)
    (All-weaker (λ (x : Message). IsAmong (numbers ms) x.number) (λ (x : Message). IsAmong (numbers (m ∷ ms)) x.number) (λ x e. or_right (nat_eq x.number m.number) (list_any (nat_eq x.number) (numbers ms)) e) ms (own_numbers ms))

among : (q : ℕ) (ns : List ℕ) (ms : List Message) → All (λ m. IsAmong ns m.number) ms → IsAmong (numbers ms) q → IsAmong ns q
among q ns [] h e = cc
among q ns (m ∷ ms) h e = by (among q ns ms (All-tail (λ (x : Message). IsAmong ns x.number) m ms h)) (nat_eq q m.number) refl e
  where
    by : (IsAmong (numbers ms) q → IsAmong ns q) → (b : Bool) → nat_eq q m.number ≡ b → (b || list_any (nat_eq q) (numbers ms)) ≡ true → IsAmong ns q
    by rest true is f =
        let same : m.number ≡ q = grind (arith, nat_tests, is) in
        subst (IsAmong ns) same (All-head (λ (x : Message). IsAmong ns x.number) m ms h)
    by rest false is f = rest f

few_open : (all earlier ms : List Message) → length (open_from all earlier ms) ≤ length (filter is_visible ms)
few_open all earlier [] = omega arith
few_open all earlier (m ∷ ms) =
    by (is_visible m) (not (list_any (λ x. same_group m x && is_in_flight x) all)) (not (list_any (λ x. same_group m x && is_delayed x) earlier)) (few_open all (m ∷ earlier) ms)
  where
    by : (v a b : Bool) → length (open_from all (m ∷ earlier) ms) ≤ length (filter is_visible ms)
        → length (kept_when (v && a && b) m (open_from all (m ∷ earlier) ms)) ≤ length (cond v (m ∷ filter is_visible ms) (filter is_visible ms))
    by true true true ih = omega (arith, ih)
    by true true false ih = omega (arith, ih)
    by true false b ih = omega (arith, ih)
    by false a b ih = omega (arith, ih)

few_given : (records : List Message) → Ascends (λ m. m.number) 0 records → length (by_group (open_from records [] records)) ≤ count_by is_visible records
few_given records a =
    let opened : List Message = open_from records [] records in
    let given : List Message = by_group opened in
    let within : length (numbers given) ≤ length (numbers opened) =
    length-le_from_is_member nat_eq_equiv (numbers given) (numbers opened) (distinct given (apart_available records a))
    (λ q e. among q (numbers opened) given (all_groups (λ m. IsAmong (numbers opened) m.number) opened (firsts [] opened) (own_numbers opened)) e) in
    omega (arith, within, length-map given (λ (m : Message). m.number), length-map opened (λ (m : Message). m.number), few_open records [] records, length-filter is_visible records)

-- to ask a FIFO queue for more than are visible finds no more
pub given_taken : (most : ℕ) (records : List Message) → Ascends (λ m. m.number) 0 records
    → take (min most (count_by is_visible records)) (by_group (open_from records [] records)) ≡ take most (by_group (open_from records [] records))
given_taken most records a = take_few most (count_by is_visible records) (by_group (open_from records [] records)) (few_given records a)

long : (low next : ℕ) (items : List Shelved) → low ≤ next → Ascends number_of low items → All (λ s. number_of s < next) items → low + length items ≤ next
long low next [] l a b = omega (arith, l)
long low next (s ∷ items) l a b =
    let first : number_of s < next = All-head (λ (x : Shelved). number_of x < next) s items b in
    let rest : number_of s + 1 + length items ≤ next = long (number_of s + 1) next items (omega (arith, first)) a.1 (All-tail (λ (x : Shelved). number_of x < next) s items b) in
    omega (arith, rest, a.0)

-- no more messages are visible than ever came
pub few_visible : (next : ℕ) (items : List Shelved) → Ascends number_of 0 items → All (λ s. number_of s < next) items → count_by is_visible (told items) ≤ next
few_visible next items a b =
    omega (arith, long 0 next items (omega arith) a b, count_by-le-length is_visible (told items), length-map items (λ (s : Shelved). s.message))
