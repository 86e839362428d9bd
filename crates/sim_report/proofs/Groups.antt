-- Lists that are counted by the number of their group.
use Rattle.std.proofs.Common.{◌≡◌, ◌==◌, ℕ, zero, suc, ◌+◌, ◌-◌, ◌*◌, ◌/◌, ◌<◌, ◌≤◌, Bool, true, false, cond, Option, List, [], ◌∷◌, ◌++◌, length, map, filter, set, take, drop, get_or, replicate, slice_get, refl, sym, ap, ◌∙◌, arith}
use Rattle.std.specs.List.{enumerate_from}
use Rattle.std.proofs.lemmas.Grind.{common_steps}
use Rattle.std.proofs.lemmas.List.{append-nil, append_assoc, length-map}
use Rattle.std.proofs.lemmas.List.FromFn.{length-enumerate_from}
use Rattle.std.proofs.lemmas.List.Elements.{filter-append}
use Rattle.std.proofs.lemmas.Bool.Decides.{nat_tests}
use Rattle.sqs_message.specs.declared.row.Row.{Row}
use Rattle.sqs_message.specs.declared.message.Place.{Place}
use Rattle.sqs_message.specs.declared.message.Place.TheVariants.{Delayed, Visible, InFlight}
use Rattle.sqs_model.specs.declared.finals.Finals.{Finals}
use Rattle.sqs_model.specs.declared.finals.FinalMessage.{FinalMessage}
use Rattle.sqs_formats.specs.Report.{Column, ages, ascending, columns_of, is_delayed, is_in_flight, is_visible, left, messages_of, queue_report, rank, report, rows_of}
use Rattle.sim_report.specs.declared.left.Left.{Left}
use Rattle.sim_report.specs.declared.queue.QueueCounts.{QueueCounts}
use Rattle.sim_report.specs.Left.{left_of, left_with, lefts}
use Rattle.sim_report.specs.Running.{changed, columns_by, columns_of_all, fresh, messages_added, queue_column, queue_counts, row_added, rows_added, queues_running, with_row}
use Rattle.sim_report.specs.Figures.{rank_in}
use Rattle.sim_report.specs.Tally.{tally_of}
use Rattle.sim_report.proofs.Ascending.{length-ascending, sum_by-ascending}
use Rattle.sim_report.proofs.Tallies.{tallied-is}

-- of each group, what its members make
unfoldable pub grouped : {X Y A : Type 0} → (X → ℕ) → (Y → List X → A) → ℕ → List Y → List X → List A
grouped key make m ys xs = map (λ q. make q.1 (filter (λ x. key x == q.0) xs)) (enumerate_from m ys)

-- what is chosen, with one more element
pub filter-push : {X : Type 0} (p : X → Bool) (xs : List X) (x : X) → filter p (xs ++ x ∷ []) ≡ cond (p x) (filter p xs ++ x ∷ []) (filter p xs)
filter-push {X} p xs x =
    filter-append p xs (x ∷ []) ∙ elim (p x) as (λ b. filter p xs ++ cond b (x ∷ []) [] ≡ cond b (filter p xs ++ x ∷ []) (filter p xs)) [ true ↦ refl | false ↦ append-nil (filter p xs) ]

filter-other : {X : Type 0} (key : X → ℕ) (n : ℕ) (xs : List X) (x : X) → (key x == n) ≡ false → filter (λ y. key y == n) (xs ++ x ∷ []) ≡ filter (λ y. key y == n) xs
filter-other {X} key n xs x e = filter-push (λ y. key y == n) xs x ∙ ap (λ b. cond b (filter (λ y. key y == n) xs ++ x ∷ []) (filter (λ y. key y == n) xs)) e

filter-own : {X : Type 0} (key : X → ℕ) (n : ℕ) (xs : List X) (x : X) → (key x == n) ≡ true → filter (λ y. key y == n) (xs ++ x ∷ []) ≡ filter (λ y. key y == n) xs ++ x ∷ []
filter-own {X} key n xs x e = filter-push (λ y. key y == n) xs x ∙ ap (λ b. cond b (filter (λ y. key y == n) xs ++ x ∷ []) (filter (λ y. key y == n) xs)) e

-- a member of an earlier group changes nothing
pub grouped-later : {X Y A : Type 0} (key : X → ℕ) (make : Y → List X → A) (m : ℕ) (ys : List Y) (xs : List X) (x : X)
    → key x < m → grouped key make m ys (xs ++ x ∷ []) ≡ grouped key make m ys xs
unfolding grouped
grouped-later key make m [] xs x h = refl
grouped-later key make m (y ∷ ys) xs x h =
    let here = ap (make y) (filter-other key m xs x (grind (arith, nat_tests))) in
    let rest = grouped-later key make (m + 1) ys xs x (omega arith) in
    cc

-- a member changes what its own group makes
pub grouped-at : {X Y A : Type 0} (key : X → ℕ) (make : Y → List X → A) (step : A → A) (i m : ℕ) (ys : List Y) (xs : List X) (x : X)
    → ((y : Y) (zs : List X) → make y (zs ++ x ∷ []) ≡ step (make y zs)) → key x ≡ m + i → grouped key make m ys (xs ++ x ∷ []) ≡ changed step i (grouped key make m ys xs)
unfolding grouped
grouped-at key make step i m [] xs x one h = refl
grouped-at key make step zero m (y ∷ ys) xs x one h =
    let here = ap (make y) (filter-own key m xs x (grind (arith, nat_tests))) ∙ one y (filter (λ z. key z == m) xs) in
    let rest = grouped-later key make (m + 1) ys xs x (omega arith) in
    cc
grouped-at key make step (suc i) m (y ∷ ys) xs x one h =
    let here = ap (make y) (filter-other key m xs x (grind (arith, nat_tests))) in
    let rest = grouped-at key make step i (m + 1) ys xs x one (omega arith) in
    cc

-- one more row
pub running-push : (queues : List (List ℕ)) (rows : List Row) (row : Row) → row_added (queues_running queues rows) row ≡ queues_running queues (rows ++ row ∷ [])
unfolding grouped queues_running
running-push queues rows row =
    sym (grouped-at (λ (r : Row). r.queue) (λ (name : List ℕ) (rs : List Row). record { name = name; tally = tally_of rs }) (with_row row) row.queue 0 queues rows row
    (λ name rs. ap (λ t. record { name = name; tally = t }) (sym (tallied-is rs row))) (omega arith))

-- more rows
pub running-append : (queues : List (List ℕ)) (before rows : List Row) → rows_added (queues_running queues before) rows ≡ queues_running queues (before ++ rows)
running-append queues before [] = ap (queues_running queues) (sym (append-nil before))
running-append queues before (row ∷ rows) =
    ap (λ (qs : List QueueCounts). rows_added qs rows) (running-push queues before row)
    ∙ running-append queues (before ++ row ∷ []) rows
    ∙ ap (queues_running queues) (append_assoc before (row ∷ []) rows)

length-more : (p : FinalMessage → Bool) (ms : List FinalMessage) (m : FinalMessage) (b : Bool) → b ≡ p m → length (filter p (ms ++ m ∷ [])) ≡ cond b (length (filter p ms) + 1) (length (filter p ms))
length-more p ms m true e = ap length (filter-push p ms m ∙ ap (λ b. cond b (filter p ms ++ m ∷ []) (filter p ms)) (sym e)) ∙ grind (arith, common_steps)
length-more p ms m false e = ap length (filter-push p ms m ∙ ap (λ b. cond b (filter p ms ++ m ∷ []) (filter p ms)) (sym e))

-- one more at a place
placed : (place : Place) (l : Left)
    → record { visible = cond (is_visible place) (l.visible + 1) l.visible; in_flight = cond (is_in_flight place) (l.in_flight + 1) l.in_flight; delayed = cond (is_delayed place) (l.delayed + 1) l.delayed } ≡ left_with place l
placed Delayed l = refl
placed Visible l = refl
placed InFlight l = refl

-- one more message that is left
left-push : (ms : List FinalMessage) (m : FinalMessage) → left_of (ms ++ m ∷ []) ≡ left_with m.place (left_of ms)
left-push ms m =
    let one = length-more (λ m. is_visible m.place) ms m (is_visible m.place) refl in
    let two = length-more (λ m. is_in_flight m.place) ms m (is_in_flight m.place) refl in
    let three = length-more (λ m. is_delayed m.place) ms m (is_delayed m.place) refl in
    rw (one, two, three) (placed m.place (left_of ms))

-- one more message
lefts-push : {Q : Type 0} (queues : List Q) (ms : List FinalMessage) (m : FinalMessage)
    → changed (left_with m.place) m.id.site (lefts queues ms) ≡ lefts queues (ms ++ m ∷ [])
unfolding grouped
lefts-push {Q} queues ms m =
    sym (grouped-at (λ (m : FinalMessage). m.id.site) (λ (q : Q) (ms : List FinalMessage). left_of ms) (left_with m.place) m.id.site 0 queues ms m (λ q zs. left-push zs m) (omega arith))

-- more messages
pub lefts-append : {Q : Type 0} (queues : List Q) (before messages : List FinalMessage) → messages_added (lefts queues before) messages ≡ lefts queues (before ++ messages)
lefts-append queues before [] = ap (lefts queues) (sym (append-nil before))
lefts-append queues before (m ∷ messages) =
    ap (λ (ls : List Left). messages_added ls messages) (lefts-push queues before m)
    ∙ lefts-append queues (before ++ m ∷ []) messages
    ∙ ap (lefts queues) (append_assoc before (m ∷ []) messages)

-- a rank of ages in ascending order
pub rank-ascending : (p : ℕ) (ns : List ℕ) → rank_in p (ascending ns) ≡ rank p ns
rank-ascending p ns = ap (λ n. slice_get (ascending ns) ((p * n + 99) / 100 - 1)) (length-ascending ns)

-- the columns of a queue are those of the definitions
columns_by-is : (rows : List Row) (messages : List FinalMessage) → columns_by (tally_of rows) (left_of messages) ≡ columns_of rows messages
unfolding columns_of
columns_by-is rows messages =
    let total = sum_by-ascending (λ x. x) (ages rows) in
    rw (total, rank-ascending 100 (ages rows), rank-ascending 50 (ages rows), rank-ascending 95 (ages rows), rank-ascending 99 (ages rows)) refl

columns-from : (n : ℕ) (queues : List (List ℕ)) (rows : List Row) (f : Finals)
    → map (queue_column f.messages) (enumerate_from n (map (queue_counts rows) (enumerate_from n queues))) ≡ map (queue_report rows f) (enumerate_from n queues)
columns-from n [] rows f = refl
columns-from n (queue ∷ queues) rows f =
    let here : queue_column f.messages (n, queue_counts rows (n, queue)) ≡ queue_report rows f (n, queue) = ap (λ (cs : List (Option ℕ)). (queue, cs)) (columns_by-is (rows_of n rows) (messages_of n f.messages)) in
    let rest = columns-from (n + 1) queues rows f in
    cc

-- the columns of all queues are the report
pub columns-report : (queues : List (List ℕ)) (rows : List Row) (f : Finals) → columns_of_all (queues_running queues rows) f.messages ≡ report queues rows f
unfolding queues_running
columns-report queues rows f = columns-from 0 queues rows f

-- a change at a place
pub changed-set : {X : Type 0} (f : X → X) (i : ℕ) (xs : List X) (d : X) → i < length xs → changed f i xs ≡ set xs i (f (get_or xs i d))
changed-set f i [] d h = refl
changed-set f zero (x ∷ xs) d h = refl
changed-set {X} f (suc i) (x ∷ xs) d h = ap (λ (ys : List X). x ∷ ys) (changed-set f i xs d (omega arith))

-- a change past the end
pub changed-past : {X : Type 0} (f : X → X) (i : ℕ) (xs : List X) → length xs ≤ i → changed f i xs ≡ xs
changed-past f i [] h = refl
changed-past f zero (x ∷ xs) h = absurd (omega arith)
changed-past {X} f (suc i) (x ∷ xs) h = ap (λ (ys : List X). x ∷ ys) (changed-past f i xs (omega arith))

lefts-none_from : {Q : Type 0} (n : ℕ) (queues : List Q)
    → replicate (length queues) (left_of []) ≡ map (λ q. left_of (messages_of q.0 [])) (enumerate_from n queues)
lefts-none_from n [] = refl
lefts-none_from n (q ∷ qs) = ap (λ (ls : List Left). left_of [] ∷ ls) (lefts-none_from (n + 1) qs)

-- nothing is left of no messages
pub lefts-none : {Q : Type 0} (queues : List Q) → replicate (length queues) (left_of []) ≡ lefts queues []
lefts-none queues = lefts-none_from 0 queues

-- a slice of a whole list is written back
pub written_back : {X : Type 0} (n : ℕ) (xs ys : List X) → length xs ≡ n → length ys ≡ n → take n (xs ++ drop (length xs) ys) ≡ xs
written_back n xs ys e f = grind (arith, common_steps)

running-none_from : (n : ℕ) (names : List (List ℕ)) → map fresh names ≡ map (queue_counts []) (enumerate_from n names)
running-none_from n [] = refl
running-none_from n (name ∷ names) = ap (λ (qs : List QueueCounts). fresh name ∷ qs) (running-none_from (n + 1) names)

-- the queues with no rows
pub running-none : (names : List (List ℕ)) → map fresh names ≡ queues_running names []
unfolding queues_running
running-none names = running-none_from 0 names

-- there is one for each queue
pub length-lefts : {Q : Type 0} (queues : List Q) (messages : List FinalMessage) → length (lefts queues messages) ≡ length queues
length-lefts queues messages = simp (length-map, length-enumerate_from)

-- there is one column for each queue
pub length-columns : (queues : List QueueCounts) (messages : List FinalMessage) → length (columns_of_all queues messages) ≡ length queues
length-columns queues messages = simp (length-map, length-enumerate_from)

column-at_from : (n : ℕ) (queues : List QueueCounts) (messages : List FinalMessage) (i : ℕ) (d : Column) (q : QueueCounts) (l : Left) → i < length queues
    → get_or (map (queue_column messages) (enumerate_from n queues)) i d
    ≡ ((get_or queues i q).name, columns_by (get_or queues i q).tally (get_or (map (λ q. left_of (messages_of q.0 messages)) (enumerate_from n queues)) i l))
column-at_from n [] messages i d q l h = absurd (omega arith)
column-at_from n (x ∷ xs) messages zero d q l h = refl
column-at_from n (x ∷ xs) messages (suc i) d q l h = column-at_from (n + 1) xs messages i d q l (omega arith)

-- a queue's columns are of its own counts and of what is left of it
pub column-at : (queues : List QueueCounts) (messages : List FinalMessage) (i : ℕ) (d : Column) (q : QueueCounts) (l : Left) → i < length queues
    → get_or (columns_of_all queues messages) i d ≡ ((get_or queues i q).name, columns_by (get_or queues i q).tally (get_or (lefts queues messages) i l))
column-at queues messages i d q l h = column-at_from 0 queues messages i d q l h

-- the columns that are written for a queue, from its counts and what is left of it
pub column-is : (queues : List QueueCounts) (messages : List FinalMessage) (left : List Left) (i : ℕ) (q : QueueCounts) (l : Left)
    → i < length queues → q ≡ get_or queues i q → left ≡ lefts queues messages → l ≡ get_or left i l
    → (q.name, columns_by q.tally l) ≡ get_or (columns_of_all queues messages) i (q.name, columns_by q.tally l)
column-is queues messages left i q l h here all there =
    let own : l ≡ get_or (lefts queues messages) i l = there ∙ ap (λ (ls : List Left). get_or ls i l) all in
    ap (λ (x : QueueCounts). (x.name, columns_by x.tally l)) here
    ∙ ap (λ (x : Left). ((get_or queues i q).name, columns_by (get_or queues i q).tally x)) own
    ∙ sym (column-at queues messages i (q.name, columns_by q.tally l) q l h)
