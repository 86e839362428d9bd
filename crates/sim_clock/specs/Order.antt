-- The order of due entries: by moment, agent, class and number; least ones and sorted lists by an order.
use Rattle.std.specs.Prelude.{◌≡◌, ℕ, nat_lt, Bool, false, List, [], ◌∷◌, Option, Some, None, if◌then◌else◌}
use Rattle.std.specs.declared.cmp.Ordering.{Ordering}
use Rattle.std.specs.Ordering.{nat_cmp, on, then_cmp, is_lt, is_eq}
use Rattle.std.specs.Cmp.{IsTotalOrder}
use Rattle.std.proofs.lemmas.Cmp.{nat_cmp_total, on_total, then_total}
use Rattle.sim_clock.specs.declared.key.Key.{Key}
use Rattle.sim_clock.specs.declared.key.Class.{Class}
use Rattle.sim_clock.specs.declared.key.Class.TheVariants.{Expiry, Release, Arrival, PollEnd, Wake, Sample, Step}

-- the place of a class among the classes of one agent and moment
abbrev pub class_rank : Class → ℕ
class_rank Expiry = 0
class_rank Release = 1
class_rank Arrival = 2
class_rank PollEnd = 3
class_rank Wake = 4
class_rank Sample = 5
class_rank Step = 6

-- keys compare by moment, agent, class and number, in this order
abbrev pub key_cmp : Key → Key → Ordering
key_cmp =
    then_cmp (on (λ k. k.at) nat_cmp)
    (then_cmp (on (λ k. k.agent) nat_cmp) (then_cmp (on (λ k. class_rank k.class) nat_cmp) (on (λ k. k.number) nat_cmp)))

-- of any two keys one comes first, or they tie, and so on down a chain of them
pub key_cmp_total : IsTotalOrder key_cmp
key_cmp_total =
    then_total (on_total (λ k. k.at) nat_cmp_total)
    (then_total (on_total (λ k. k.agent) nat_cmp_total)
    (then_total (on_total (λ k. class_rank k.class) nat_cmp_total) (on_total (λ k. k.number) nat_cmp_total)))

-- whether two keys are one
abbrev pub same_key : Key → Key → Bool
same_key a b = is_eq (key_cmp a b)

-- the lesser of two that may be absent
abbrev pub lesser_by : {A : Type 0} → (A → A → Ordering) → Option A → Option A → Option A
lesser_by R None b = b
lesser_by R (Some a) None = Some a
lesser_by R (Some a) (Some b) = if is_lt (R b a) then Some b else Some a

-- the least of a list
abbrev pub least_by : {A : Type 0} → (A → A → Ordering) → List A → Option A
least_by R [] = None
least_by R (x ∷ xs) = lesser_by R (Some x) (least_by R xs)

-- the lesser of two keys that may be absent
abbrev pub lesser : Option Key → Option Key → Option Key
lesser = lesser_by key_cmp

-- the least key of a list
abbrev pub least : List Key → Option Key
least = least_by key_cmp

-- a list with one more, before the first that comes after it
abbrev pub inserted_by : {A : Type 0} → (A → A → Ordering) → A → List A → List A
inserted_by R x [] = x ∷ []
inserted_by R x (y ∷ ys) = if is_lt (R x y) then x ∷ (y ∷ ys) else y ∷ inserted_by R x ys

-- a list of keys with one more at its place
abbrev pub inserted : Key → List Key → List Key
inserted = inserted_by key_cmp

-- the members of a list in order, each inserted into those after it
abbrev pub sorted_by : {A : Type 0} → (A → A → Ordering) → List A → List A
sorted_by R [] = []
sorted_by R (x ∷ xs) = inserted_by R x (sorted_by R xs)

-- the keys of a list in their order
abbrev pub sorted : List Key → List Key
sorted = sorted_by key_cmp

-- whether the first of a list, if any, does not come before this one
abbrev pub IsBefore : {A : Type 0} → (A → A → Ordering) → A → List A → Type 0
IsBefore R x [] = Unit {0}
IsBefore R x (y ∷ ys) = is_lt (R y x) ≡ false

-- lists in order: none comes before the one in front of it
abbrev pub IsInOrder : {A : Type 0} → (A → A → Ordering) → List A → Type 0
IsInOrder R [] = Unit {0}
IsInOrder R (x ∷ xs) = IsBefore R x xs × IsInOrder R xs

-- a key that is due before a moment
abbrev pub due_before : ℕ → Option Key → Option Key
due_before e None = None
due_before e (Some k) = if nat_lt k.at e then Some k else None
