-- Messages whose numbers go up: no two have one number, and each is the first of its own.
use Rattle.std.proofs.Common.{◌≡◌, ℕ, ◌+◌, ◌<◌, ◌≤◌, Bool, true, false, List, [], ◌∷◌, ◌++◌, Some, cond, if◌then◌else◌, filter, take, get_or, arith, refl, sym, ap, ◌∙◌}
use Rattle.std.specs.Prelude.{All, find, ◌≢◌, suc, zero}
use Rattle.std.proofs.lemmas.Bool.Decides.{nat_tests}
use Rattle.std.proofs.lemmas.List.Elements.{All-append, All-cons, All-head, All-nil, All-tail, All-take, All-weaker}
use Rattle.sim_clock.specs.Firsts.{without}
use Rattle.sqs_message.specs.declared.message.Message.{Message}
use Rattle.sqs_model.specs.Progress.{Ascends, Differ}
use Rattle.sqs_model.specs.Queue.{has_number, numbered}
use Rattle.sqs_model.proofs.Counts.{ascends_lower}

-- the numbers go up
abbrev pub Climbs : ℕ → List Message → Type 0
Climbs = Ascends (λ m. m.number)

-- no two have one number
abbrev pub Apart : List Message → Type 0
Apart = Differ (λ m. m.number)

-- numbers from a bound on are those from a lesser one on
pub climbs_from : (a b : ℕ) (xs : List Message) → a ≤ b → Climbs b xs → Climbs a xs
climbs_from a b xs l h = ascends_lower (λ (m : Message). m.number) a b xs l h

-- each number is at least the bound
pub all_above : (a : ℕ) (xs : List Message) → Climbs a xs → All (λ m. a ≤ m.number) xs
all_above a [] h = All-nil (λ m. a ≤ m.number)
all_above a (x ∷ xs) h = All-cons (λ m. a ≤ m.number) x xs h.0 (all_above a xs (climbs_from a (x.number + 1) xs (omega (arith, h.0)) h.1))

-- a part of what goes up goes up, and has no number twice
pub climbs_filter : (p : Message → Bool) (a : ℕ) (ms : List Message) → Climbs a ms → Climbs a (filter p ms)
climbs_filter p a [] h = tt
climbs_filter p a (m ∷ ms) h =
    let rest : Climbs (m.number + 1) (filter p ms) = climbs_filter p (m.number + 1) ms h.1 in
    elim (p m) as (λ b. Climbs a (cond b (m ∷ filter p ms) (filter p ms))) [
      | true ↦ (h.0, rest)
      | false ↦ climbs_from a (m.number + 1) (filter p ms) (omega (arith, h.0)) rest
    ]

pub climbs_apart : (a : ℕ) (ms : List Message) → Climbs a ms → Apart ms
climbs_apart a [] h = tt
climbs_apart a (m ∷ ms) h =
    (All-weaker (λ x. m.number + 1 ≤ x.number) (λ x. x.number ≢ m.number) (λ x l e. absurd (omega (arith, l, e))) ms (all_above (m.number + 1) ms h.1), climbs_apart (m.number + 1) ms h.1)

pub apart_take : (n : ℕ) (ms : List Message) → Apart ms → Apart (take n ms)
apart_take zero ms h = tt
apart_take (suc n) [] h = tt
apart_take (suc n) (m ∷ ms) h = (All-take (λ x. x.number ≢ m.number) n ms h.0, apart_take n ms h.1)

pub apart_append : (xs ys : List Message) → Apart xs → Apart ys → All (λ x. All (λ y. y.number ≢ x.number) ys) xs → Apart (xs ++ ys)
apart_append [] ys h k c = k
apart_append (x ∷ xs) ys h k c =
    let P : Message → Type 0 = λ z. All (λ y. y.number ≢ z.number) ys in
    (All-append (λ y. y.number ≢ x.number) xs ys h.0 (All-head P x xs c), apart_append xs ys h.1 k (All-tail P x xs c))

pub has_its_number : (x : Message) → has_number x.number x ≡ true
has_its_number x = grind (arith, nat_tests)

pub has_no_lesser : (x m : Message) → x.number < m.number → has_number m.number x ≡ false
has_no_lesser x m l = grind (arith, nat_tests)

-- each message is the first of its number
pub each_is_numbered : (a : ℕ) (xs : List Message) → Climbs a xs → All (λ m. numbered m.number xs ≡ Some m) xs
each_is_numbered a [] h = All-nil (λ m. numbered m.number [] ≡ Some m)
each_is_numbered a (x ∷ xs) h =
    let later : All (λ m. x.number + 1 ≤ m.number) xs = all_above (x.number + 1) xs h.1 in
    let ih : All (λ m. numbered m.number xs ≡ Some m) xs = each_is_numbered (x.number + 1) xs h.1 in
    All-cons (λ m. numbered m.number (x ∷ xs) ≡ Some m) x xs
    (ap (λ b. cond b (Some x) (numbered x.number xs)) (has_its_number x))
    (λ k d l.
    let m : Message = get_or xs k d in
    ap (λ b. cond b (Some x) (numbered m.number xs)) (has_no_lesser x m (omega (arith, later k d l))) ∙ ih k d l)

-- another test finds what it found, after the first that a test picks left
find_without_when : {A : Type 0} (p r : A → Bool) (x : A) (xs : List A) (b : Bool) → p x ≡ b → (b ≡ true → r x ≡ false) → find r (without p xs) ≡ find r xs → find r (if b then xs else x ∷ without p xs) ≡ find r (x ∷ xs)
find_without_when p r x xs true e h ih = sym (ap (λ c. cond c (Some x) (find r xs)) (h refl))
find_without_when p r x xs false e h ih = ap (λ o. cond (r x) (Some x) o) ih

find_without : {A : Type 0} (p r : A → Bool) → ((x : A) → p x ≡ true → r x ≡ false) → (xs : List A) → find r (without p xs) ≡ find r xs
find_without p r h [] = refl
find_without p r h (x ∷ xs) = find_without_when p r x xs (p x) refl (h x) (find_without p r h xs)

-- a message has but one number
pub one_number : (n k : ℕ) (m : Message) → ¬ (k ≡ n) → has_number n m ≡ true → has_number k m ≡ false
one_number n k m h e = grind (arith, nat_tests)

pub other_without : (n k : ℕ) (xs : List Message) → ¬ (k ≡ n) → numbered k (without (has_number n) xs) ≡ numbered k xs
other_without n k xs h = find_without (has_number n) (has_number k) (λ m. one_number n k m h) xs
