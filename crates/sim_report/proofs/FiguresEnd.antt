-- The running figures at the end are the figures.
use Rattle.std.proofs.Common.{◌≡◌, ℕ, ◌+◌, true, false, List, [], ◌∷◌, ◌++◌, Some, length, map, refl, sym, ap, ◌∙◌}
use Rattle.std.specs.Prelude.{codes, flat_map}
use Rattle.std.specs.List.{enumerate_from}
use Rattle.std.proofs.lemmas.List.{append_assoc, map-append}
use Rattle.std.proofs.lemmas.List.Concat.{flat_map-append}
use Rattle.sqs_message.specs.declared.row.Row.{Row}
use Rattle.sqs_formats.specs.Report.{ages, depth, rows_of}
use Rattle.sqs_formats.specs.Rows.{line, lines}
use Rattle.sim_report.specs.declared.asked.QueueAsked.{QueueAsked}
use Rattle.sim_report.specs.declared.asked.Wanted.{Wanted}
use Rattle.sim_report.specs.declared.stretch.Stretch.{Stretch}
use Rattle.sim_report.specs.Figures.{Figure, FiguresAsked, actor_figures, ages_named, apart, backlog_gone, backlog_since, figure_fields, handled, in_flight, is_full, is_serving, named_ages, named_counts, named_left, named_often, named_requests, named_tries, queue_bounds, queue_figures, received, rows_by, rows_of_moved, rows_of_new, rows_until, rows_within, tries, tries_of}
use Rattle.sim_report.specs.Written.{figures_header, figures_of_actor, figures_of_doors, figures_of_queue, figures_records, figures_text}
use Rattle.sim_report.specs.Doors.{doors, doors_records, no_doors}
use Rattle.sim_report.specs.Figured.{ActorState, QueueState, actor_name, actor_numbers, actor_records, actor_state, aged_of, bounds_by, bounds_named, door_records, figured, figured_before, fresh_actor, fresh_queue, left_by, peaks_by, queue_ages, queue_name, queue_numbers, queue_records, queue_state}
use Rattle.sim_report.proofs.Ascending.{sum_by-ascending}
use Rattle.sim_report.proofs.Groups.{rank-ascending}
use Rattle.sim_report.proofs.Figuring.{lasting-end}

-- ages by their names
ages-named : (name : List ℕ) (w : Wanted) (rows : List Row) → ages_named name w (aged_of w rows) ≡ named_ages name w rows
ages-named name w rows =
    let ns = ages rows in
    let total = sum_by-ascending (λ x. x) ns in
    rw (total, rank-ascending 50 ns, rank-ascending 95 ns, rank-ascending 99 ns, rank-ascending 100 ns) refl

-- the figures of the ages of a queue
abbrev age_figures_of : ℕ → Wanted → List Row → List Figure
age_figures_of n w rows =
    named_ages (codes "age") w (rows_within w.stretch rows)
    ++ (named_ages (codes "new_age") w (rows_within w.stretch (rows_of_new n rows)) ++ named_ages (codes "moved_age") w (rows_within w.stretch (rows_of_moved n rows)))

ages-are : (n : ℕ) (w : Wanted) (asked : QueueAsked) (rows : List Row) → queue_ages w (queue_state n w asked rows) ≡ age_figures_of n w rows
unfolding queue_ages
ages-are n w asked rows =
    let all = rows_within w.stretch rows in
    let new = rows_within w.stretch (rows_of_new n rows) in
    let moved = rows_within w.stretch (rows_of_moved n rows) in
    ap (λ (fs : List Figure). fs ++ (ages_named (codes "new_age") w (aged_of w new) ++ ages_named (codes "moved_age") w (aged_of w moved))) (ages-named (codes "age") w all)
    ∙ ap (λ (fs : List Figure). named_ages (codes "age") w all ++ (fs ++ ages_named (codes "moved_age") w (aged_of w moved))) (ages-named (codes "new_age") w new)
    ∙ ap (λ (fs : List Figure). named_ages (codes "age") w all ++ (named_ages (codes "new_age") w new ++ fs)) (ages-named (codes "moved_age") w moved)

-- the lines of three lists of figures, which are added one after another
three-lines : (f : Figure → List (List ℕ)) (text : List ℕ) (xs ys zs : List Figure)
    → ((text ++ lines (map f xs)) ++ lines (map f ys)) ++ lines (map f zs) ≡ text ++ lines (map f (xs ++ (ys ++ zs)))
three-lines f text xs ys zs =
    let said : List Figure → List ℕ = λ fs. lines (map f fs) in
    let both : (us vs : List Figure) → said (us ++ vs) ≡ said us ++ said vs =
    λ us vs. ap lines (map-append f us vs) ∙ flat_map-append line (map f us) (map f vs) in
    append_assoc (text ++ said xs) (said ys) (said zs) ∙ append_assoc text (said xs) (said ys ++ said zs)
    ∙ ap (λ (ls : List ℕ). text ++ ls) (ap (λ (ls : List ℕ). said xs ++ ls) (sym (both ys zs)) ∙ sym (both xs (ys ++ zs)))

pub ages-lines : (f : Figure → List (List ℕ)) (text : List ℕ) (w : Wanted) (q : QueueState)
    → ((text ++ lines (map f (ages_named (codes "age") w q.ages))) ++ lines (map f (ages_named (codes "new_age") w q.new_ages))) ++ lines (map f (ages_named (codes "moved_age") w q.moved_ages))
    ≡ text ++ lines (map f (queue_ages w q))
unfolding queue_ages
ages-lines f text w q =
    three-lines f text (ages_named (codes "age") w q.ages) (ages_named (codes "new_age") w q.new_ages) (ages_named (codes "moved_age") w q.moved_ages)

pub bounds-lines : (f : Figure → List (List ℕ)) (text : List ℕ) (w : Wanted) (q : QueueState)
    → ((text ++ lines (map f (bounds_named (codes "age") w q.there q.ages))) ++ lines (map f (bounds_named (codes "new_age") w (apart false q.moved q.there) q.new_ages)))
    ++ lines (map f (bounds_named (codes "moved_age") w (apart true q.moved q.there) q.moved_ages))
    ≡ text ++ lines (map f (bounds_by w q))
unfolding bounds_by
bounds-lines f text w q =
    three-lines f text (bounds_named (codes "age") w q.there q.ages) (bounds_named (codes "new_age") w (apart false q.moved q.there) q.new_ages)
    (bounds_named (codes "moved_age") w (apart true q.moved q.there) q.moved_ages)

-- what is left of a queue's messages, and for how long
left-is : (n : ℕ) (w : Wanted) (asked : QueueAsked) (rows : List Row) → left_by w (queue_state n w asked rows) ≡ named_left asked w rows
unfolding left_by
left-is n w asked rows =
    ap (λ (time : ℕ). (codes "left", Some (depth rows)) ∷ (codes "left_in_flight", Some (in_flight rows)) ∷ (codes "quota_ms", Some time)
    ∷ (codes "backlog_gone_at_ms", backlog_gone w.backlog w.stretch rows) ∷ (codes "backlog_since_ms", backlog_since w.backlog rows) ∷ [])
    (lasting-end (is_full asked.quota) w.stretch rows)

-- the figures of a queue
pub queue-is : (n : ℕ) (w : Wanted) (asked : QueueAsked) (rows : List Row) → queue_numbers w (queue_state n w asked rows) ≡ queue_figures n w asked rows
unfolding peaks_by bounds_by
queue-is n w asked rows =
    let s = w.stretch in
    let q = queue_state n w asked rows in
    let sizes : List Figure → List Figure = λ left. peaks_by s q ++ (left ++ (named_tries (tries_of (tries (rows_within s rows))) ++ named_often (handled s rows) (received s rows))) in
    let whole : List Figure → List Figure → List Figure = λ left by_age. named_counts q.counts ++ (named_requests q.polls.asked q.counts ++ (sizes left ++ (by_age ++ queue_bounds n w rows))) in
    ap (λ (left : List Figure). whole left (queue_ages w q)) (left-is n w asked rows) ∙ ap (whole (named_left asked w rows)) (ages-are n w asked rows)

-- the figures of an actor
pub actor-is : (n : ℕ) (s : Stretch) (name : List ℕ) (rows : List Row) → actor_numbers s (actor_state n s name rows) ≡ actor_figures n s rows
actor-is n s name rows = rw (lasting-end is_serving s rows) refl

queues-from : (m n : ℕ) (w : Wanted) (queues : List QueueAsked) (rows : List Row)
    → flat_map (queue_records w) (map (λ q. queue_state n w q.1 (rows_of q.0 rows)) (enumerate_from m queues))
    ≡ flat_map (figures_of_queue n w rows) (enumerate_from m queues)
queues-from m n w [] rows = refl
queues-from m n w (asked ∷ queues) rows =
    let here = ap (map (figure_fields asked.name)) (queue-is n w asked (rows_of m rows)) in
    let rest = queues-from (m + 1) n w queues rows in
    ap (λ (rs : List (List (List ℕ))). rs ++ flat_map (queue_records w) (map (λ q. queue_state n w q.1 (rows_of q.0 rows)) (enumerate_from (m + 1) queues))) here
    ∙ ap (λ (rs : List (List (List ℕ))). map (figure_fields asked.name) (queue_figures n w asked (rows_of m rows)) ++ rs) rest

actors-from : (m n : ℕ) (s : Stretch) (actors : List (List ℕ)) (rows : List Row)
    → flat_map (actor_records s) (map (λ a. actor_state n s a.1 (rows_by a.0 rows)) (enumerate_from m actors))
    ≡ flat_map (figures_of_actor n s rows) (enumerate_from m actors)
actors-from m n s [] rows = refl
actors-from m n s (name ∷ names) rows =
    let here = ap (map (figure_fields name)) (actor-is n s name (rows_by m rows)) in
    let rest = actors-from (m + 1) n s names rows in
    ap (λ (rs : List (List (List ℕ))). rs ++ flat_map (actor_records s) (map (λ a. actor_state n s a.1 (rows_by a.0 rows)) (enumerate_from (m + 1) names))) here
    ∙ ap (λ (rs : List (List (List ℕ))). map (figure_fields name) (actor_figures n s (rows_by m rows)) ++ rs) rest

-- the names of the queues and of the actors
queue-names : (m n : ℕ) (w : Wanted) (queues : List QueueAsked) (rows : List Row)
    → map queue_name (map (λ q. queue_state n w q.1 (rows_of q.0 rows)) (enumerate_from m queues)) ≡ map (λ (q : QueueAsked). q.name) queues
queue-names m n w [] rows = refl
queue-names m n w (asked ∷ queues) rows = ap (λ (names : List (List ℕ)). asked.name ∷ names) (queue-names (m + 1) n w queues rows)

actor-names : (m n : ℕ) (s : Stretch) (names : List (List ℕ)) (rows : List Row)
    → map actor_name (map (λ a. actor_state n s a.1 (rows_by a.0 rows)) (enumerate_from m names)) ≡ names
actor-names m n s [] rows = refl
actor-names m n s (name ∷ names) rows = ap (λ (rest : List (List ℕ)). name ∷ rest) (actor-names (m + 1) n s names rows)

-- the text of the running figures is that of the figures
text-before : (asked : FiguresAsked) (rows : List Row)
    → line figures_header
    ++ (lines (flat_map (queue_records asked.wanted) (figured_before asked rows).of_queues)
    ++ (lines (flat_map (actor_records asked.wanted.stretch) (figured_before asked rows).of_actors) ++ lines (door_records (figured_before asked rows))))
    ≡ lines (figures_records asked rows)
unfolding figured_before
text-before asked rows =
    let n = length asked.queues in
    let w = asked.wanted in
    let of_queues = queues-from 0 n w asked.queues rows in
    let of_actors = actors-from n n w.stretch asked.actors rows in
    let first = flat_map (figures_of_queue n w rows) (enumerate_from 0 asked.queues) in
    let second = flat_map (figures_of_actor n w.stretch rows) (enumerate_from n asked.actors) in
    let third = figures_of_doors asked rows in
    let doors_are : door_records (figured_before asked rows) ≡ third =
    ap (λ (names : List (List ℕ)). doors_records w names (map actor_name (figured_before asked rows).of_actors) (doors asked rows)) (queue-names 0 n w asked.queues rows)
    ∙ ap (λ (names : List (List ℕ)). doors_records w (map (λ (q : QueueAsked). q.name) asked.queues) names (doors asked rows)) (actor-names n n w.stretch asked.actors rows) in
    ap (λ (text : List ℕ). line figures_header ++ text)
    (ap (λ (rs : List (List (List ℕ))). lines rs ++ (lines (flat_map (actor_records w.stretch) (figured_before asked rows).of_actors) ++ lines (door_records (figured_before asked rows)))) of_queues
    ∙ ap (λ (rs : List (List (List ℕ))). lines first ++ (lines rs ++ lines (door_records (figured_before asked rows)))) of_actors
    ∙ ap (λ (rs : List (List (List ℕ))). lines first ++ (lines second ++ lines rs)) doors_are
    ∙ ap (λ (text : List ℕ). lines first ++ text) (sym (flat_map-append line second third))
    ∙ sym (flat_map-append line first (second ++ third)))

pub text-is : (asked : FiguresAsked) (rows : List Row)
    → line figures_header
    ++ (lines (flat_map (queue_records asked.wanted) (figured asked rows).of_queues)
    ++ (lines (flat_map (actor_records asked.wanted.stretch) (figured asked rows).of_actors) ++ lines (door_records (figured asked rows))))
    ≡ figures_text asked rows
unfolding figured
text-is asked rows = text-before asked (rows_until asked.wanted.stretch rows)

queues-none : (m n : ℕ) (w : Wanted) (queues : List QueueAsked) → map (fresh_queue w.stretch) queues ≡ map (λ q. queue_state n w q.1 []) (enumerate_from m queues)
queues-none m n w [] = refl
queues-none m n w (asked ∷ queues) = ap (λ (qs : List QueueState). fresh_queue w.stretch asked ∷ qs) (queues-none (m + 1) n w queues)

actors-none : (m n : ℕ) (s : Stretch) (names : List (List ℕ)) → map fresh_actor names ≡ map (λ a. actor_state n s a.1 []) (enumerate_from m names)
actors-none m n s [] = refl
actors-none m n s (name ∷ names) = ap (λ (rest : List ActorState). fresh_actor name ∷ rest) (actors-none (m + 1) n s names)

-- the figures of no rows
pub figured-none : (asked : FiguresAsked)
    → record { wanted = asked.wanted; of_queues = map (fresh_queue asked.wanted.stretch) asked.queues; of_actors = map fresh_actor asked.actors; doors = no_doors asked } ≡ figured asked []
unfolding figured figured_before
figured-none asked =
    let n = length asked.queues in
    rw (queues-none 0 n asked.wanted asked.queues, actors-none n n asked.wanted.stretch asked.actors) refl
