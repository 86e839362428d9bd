-- What the rows so far say of a message, with one more row.
use Rattle.sqs_laws.proofs.Terms.{All-head, All-tail, bit, Climbs, eqb-true, has_number, is_deleted, is_expired, list_any, Message, MessageId, nat_tests, numbered, or-false, or-true, or_parts, Row, RowAnswer, sum_by-append, sum_by-cons, total, without}
use Rattle.std.specs.Prelude.{All, Bool, List, None, Some, [], cond, count_by, false, true, ℕ, ◌&&◌, ◌+◌, ◌++◌, ◌<◌, ◌==◌, ◌∷◌, ◌≡◌, ◌≢◌, ◌≤◌, ◌||◌}
use Rattle.std.proofs.Common.{ap, arith, refl, ◌∙◌}
use Rattle.std.proofs.lemmas.List.Folds.{list_any-append}
use Rattle.sqs_message.specs.declared.row.RowAnswer.TheVariants as answers
use Rattle.sqs_laws.specs.Words.{comes, comings, has_left, is_gone, is_new, leaves, names, received, times, is_redrive, is_move}
pub use Rattle.sqs_laws.proofs.Naming.{last_as, names_apart, names_id, names_other, names_same}

-- what is counted, as a sum
pub count_total : {A : Type 0} (p : A → Bool) (xs : List A) → count_by p xs ≡ total (λ x. bit (p x)) xs
count_total p [] = refl
count_total p (x ∷ xs) = omega (arith, sum_by-cons (λ y. bit (p y)) x xs, count_total p xs)

-- counts with one more
pub count_push : {A : Type 0} (p : A → Bool) (xs : List A) (x : A) → count_by p (xs ++ x ∷ []) ≡ count_by p xs + bit (p x)
count_push {A} p xs x =
    let f : A → ℕ = λ y. bit (p y) in
    omega (arith, sum_by-append f xs (x ∷ []), sum_by-cons f x [])

pub any_push : {A : Type 0} (p : A → Bool) (xs : List A) (x : A) → list_any p (xs ++ x ∷ []) ≡ (list_any p xs || p x)
any_push p xs x = list_any-append p xs (x ∷ []) ∙ ap (λ b. list_any p xs || b) (or-false (p x))

-- what is new has not gone
pub new_stays : (a : RowAnswer) → is_new a ≡ true → is_gone a ≡ false
new_stays answers.New h = refl
new_stays a h = cc

-- one more row of whether a message has left, how often it was received, and how many came
pub left_as : (m : MessageId) (rows : List Row) (r : Row) (b : Bool) → (leaves r && names m r) ≡ b → has_left m (rows ++ r ∷ []) ≡ (has_left m rows || b)
left_as m rows r b e = any_push (λ x. leaves x && names m x) rows r ∙ ap (λ y. has_left m rows || y) e

pub left_still : (m : MessageId) (rows : List Row) (r : Row) → (leaves r && names m r) ≡ false → has_left m (rows ++ r ∷ []) ≡ has_left m rows
left_still m rows r e = left_as m rows r false e ∙ or-false (has_left m rows)

pub left_now : (m : MessageId) (rows : List Row) (r : Row) → leaves r ≡ true → r.message ≡ Some m → has_left m (rows ++ r ∷ []) ≡ true
left_now m rows r l e = left_as m rows r true (rw (l, names_same m r e) refl) ∙ or-true (has_left m rows)

pub times_as : (m : MessageId) (rows : List Row) (r : Row) (b : Bool) → (received r && names m r) ≡ b → times m (rows ++ r ∷ []) ≡ times m rows + bit b
times_as m rows r b e = count_push (λ x. received x && names m x) rows r ∙ ap (λ y. times m rows + bit y) e

pub comings_as : (n : ℕ) (rows : List Row) (r : Row) (b : Bool) → (comes r && r.queue == n) ≡ b → comings n (rows ++ r ∷ []) ≡ comings n rows + bit b
comings_as n rows r b e = count_push (λ x. comes x && x.queue == n) rows r ∙ ap (λ y. comings n rows + bit y) e

-- a row that tells of none that leaves is no redrive and no move
pub none_leaves : (r : Row) → leaves r ≡ false → (is_redrive r.kind ≡ false) × (is_move r.kind ≡ false)
none_leaves r l =
    let a = or_parts (is_deleted r.answer || is_expired r.answer || is_redrive r.kind) (is_move r.kind) l in
    ((or_parts (is_deleted r.answer || is_expired r.answer) (is_redrive r.kind) a.0).1, a.1)

-- messages by their numbers: one more, with the next number; one that is taken out
pub pushed_other : (n : ℕ) (ms : List Message) (m : Message) → n ≢ m.number → numbered n (ms ++ m ∷ []) ≡ numbered n ms
pushed_other n [] m d = let other : has_number n m ≡ false = grind (arith, nat_tests, d) in rw other refl
pushed_other n (x ∷ xs) m d = ap (λ o. cond (has_number n x) (Some x) o) (pushed_other n xs m d)

pub absent_above : (n a : ℕ) (ms : List Message) → n < a → Climbs a ms → numbered n ms ≡ None
absent_above n a [] l c = refl
absent_above n a (x ∷ xs) l c =
    let k : a ≤ x.number = c.0 in
    let other : has_number n x ≡ false = grind (arith, nat_tests, k, l) in
    rw other (absent_above n (x.number + 1) xs (omega arith) c.1)

pub taken_absent : (n a : ℕ) (ms : List Message) → Climbs a ms → numbered n (without (has_number n) ms) ≡ None
taken_absent n a [] c = refl
taken_absent n a (x ∷ xs) c =
    elim (has_number n x) as (λ b. has_number n x ≡ b → numbered n (cond b xs (x ∷ without (has_number n) xs)) ≡ None) [
      | true ↦ λ e. let is : x.number ≡ n = eqb-true x.number n e in absent_above n (x.number + 1) xs (omega arith) c.1
      | false ↦ λ e. rw e (taken_absent n (x.number + 1) xs c.1)
    ] refl

-- no message has the next number yet
pub not_there : (n : ℕ) (ms : List Message) → All (λ m. m.number < n) ms → numbered n ms ≡ None
not_there n [] h = refl
not_there n (x ∷ xs) h =
    let l : x.number < n = All-head (λ m. m.number < n) x xs h in
    let other : has_number n x ≡ false = grind (arith, nat_tests, l) in
    rw other (not_there n xs (All-tail (λ m. m.number < n) x xs h))
