-- The running figures keep to the definitions of the figures.
use Rattle.std.proofs.Common.{◌≡◌, ◌==◌, ℕ, ◌+◌, ◌-◌, max, Bool, true, false, cond, not, nat_lt, nat_le, filter, filter_map, Option, Some, None, List, [], ◌∷◌, ◌++◌, fold, length, map, refl, sym, ap, ◌∙◌, arith}
use Rattle.std.specs.List.{enumerate_from}
use Rattle.std.specs.Prelude.{option_map, sum}
use Rattle.std.proofs.lemmas.List.{append-nil, append_assoc, length-append, length-map}
use Rattle.std.proofs.lemmas.List.FromFn.{length-enumerate_from}
use Rattle.std.proofs.lemmas.List.Elements.{filter-append, filter_map-append}
use Rattle.std.proofs.lemmas.List.Sums.{fold_push, sum_by-append, sum_by-cons}
use Rattle.std.proofs.lemmas.Bool.Decides.{nat_tests}
use Rattle.sqs_message.specs.declared.row.Row.{Row}
use Rattle.sqs_formats.specs.Report.{ages, ascending, column, count, counts_in, depth, rows_of}
use Rattle.sim_report.specs.declared.aged.Aged.{Aged}
use Rattle.sim_report.specs.declared.asked.QueueAsked.{QueueAsked}
use Rattle.sim_report.specs.declared.asked.Wanted.{Wanted}
use Rattle.sim_report.specs.declared.level.Level.{Level}
use Rattle.sim_report.specs.declared.peak.Peak.{Peak}
use Rattle.sim_report.specs.declared.polls.Given.{Given}
use Rattle.sim_report.specs.declared.stretch.Stretch.{Stretch}
use Rattle.sim_report.specs.Doors.{DoorsState, doors_with, no_doors}
use Rattle.sim_report.specs.Facts.{fact_of, place_in}
use Rattle.sim_report.specs.Figures.{FiguresAsked, Often, age_before, begins_backlog, begins_batch, begins_receive, comes_in, count_names, count_of_row, counts_of, ends_backlog, flight_of, flying, flying_with, given_by, gives, handled, handles, held_by, higher, hold_of, in_flight, is_backlog, is_full, is_moved, is_serving, is_within, last_moment, levels_from, message_of, moved_here, moved_with, never, no_windows, number_of, often, oldest_before, once_more, overlap, own_receipt, peak_of, rows_before, rows_by, rows_of_new, rows_until, rows_where, rows_within, there, there_by, there_with, time_from, time_while, tries, tries_of, tries_when, unused, use_of, waiting_with, window_of, windows, windows_by, windows_with}
use Rattle.sim_report.specs.Figured.{actor_state, actor_with, aged_if, aged_of, backlogs_of, backlogs_with, begins_by, depth_at, figured, figured_before, figures_after, figures_counting, figures_with, handled_of, handled_with, has_begun, last_at, lasting_of, lasting_until, lasting_with, level_of, level_with, more_if, one_in, peak_with, polls_of, polls_with, queue_changing, queue_counting, queue_judging, queue_peaking, queue_state, queue_timing, queue_with, time_to_last, tries_if, tries_with}
use Rattle.sim_report.specs.Running.{changed}
use Rattle.sim_report.specs.Tally.{age_in, counted, with_age}
use Rattle.sim_report.proofs.Groups.{filter-push, grouped, grouped-at, grouped-later}
use Rattle.sim_report.proofs.Unused.{handled-parts, parts-push}
use Rattle.sim_report.proofs.Tallies.{ages-push, columns-push, count-push}

one-more : (b : Bool) (n : ℕ) → cond b (n + 1) n ≡ n + cond b 1 0
one-more true n = refl
one-more false n = omega arith

-- the level with one more row
level-push : (rows : List Row) (row : Row) → level_of (rows ++ row ∷ []) ≡ level_with (column row.kind row.answer) (level_of rows)
level-push rows row =
    let each : (n : ℕ) → count n (rows ++ row ∷ []) ≡ count n rows + one_in n (column row.kind row.answer) =
    λ n. count-push n rows row ∙ one-more (counts_in n row) (count n rows) in
    let came : count 0 (rows ++ row ∷ []) + count 8 (rows ++ row ∷ []) ≡ count 0 rows + count 8 rows + (one_in 0 (column row.kind row.answer) + one_in 8 (column row.kind row.answer)) = grind (arith, each 0, each 8) in
    let went : count 4 (rows ++ row ∷ []) + count 5 (rows ++ row ∷ []) + count 6 (rows ++ row ∷ []) + count 7 (rows ++ row ∷ [])
    ≡ count 4 rows + count 5 rows + count 6 rows + count 7 rows
    + (one_in 4 (column row.kind row.answer) + one_in 5 (column row.kind row.answer) + one_in 6 (column row.kind row.answer) + one_in 7 (column row.kind row.answer)) =
    grind (arith, each 4, each 5, each 6, each 7) in
    cc

-- what is counted with one more row
pub counts-push : (queues : ℕ) (rows : List Row) (row : Row) → counts_of queues (rows ++ row ∷ []) ≡ counted (count_of_row queues row) (counts_of queues rows)
counts-push queues = columns-push (count_of_row queues) count_names

-- a number that a row has, at its moment
abbrev after : ℕ → Row → Peak
after number row = record { at = row.key.at; number = number }

-- the numbers that the rows of a stretch have, with one more row
levels-push : (level : List Row → Row → ℕ) (s : Stretch) (before rows : List Row) (row : Row)
    → levels_from level s before (rows ++ row ∷ [])
    ≡ levels_from level s before rows ++ cond (is_within s row) (after (level (before ++ rows) row) row ∷ []) []
levels-push level s before [] row =
    append-nil (cond (is_within s row) (after (level before row) row ∷ []) [])
    ∙ ap (λ (p : List Row). cond (is_within s row) (after (level p row) row ∷ []) []) (sym (append-nil before))
levels-push level s before (r ∷ rows) row =
    let here = cond (is_within s r) (after (level before r) r ∷ []) [] in
    let rest = levels-push level s (before ++ r ∷ []) rows row in
    let same = append_assoc before (r ∷ []) rows in
    let last = λ (p : List Row). cond (is_within s row) (after (level p row) row ∷ []) [] in
    ap (λ (ls : List Peak). here ++ ls) (rest ∙ ap (λ p. levels_from level s (before ++ r ∷ []) rows ++ last p) same)
    ∙ sym (append_assoc here (levels_from level s (before ++ r ∷ []) rows) (last (before ++ r ∷ rows)))

-- whether a stretch has begun, with one more row
begun-push : (s : Stretch) (rows : List Row) (row : Row) → has_begun s (rows ++ row ∷ []) ≡ begins_by s row.key.at (has_begun s rows)
begun-push s [] row = go (is_within s row)
  where
    go : (b : Bool) → cond b true false ≡ b
    go true = refl
    go false = refl
begun-push s (r ∷ rows) row = go (is_within s r) (begun-push s rows row)
  where
    go : (b : Bool) → has_begun s (rows ++ row ∷ []) ≡ begins_by s row.key.at (has_begun s rows)
        → cond b true (has_begun s (rows ++ row ∷ [])) ≡ begins_by s row.key.at (cond b true (has_begun s rows))
    go true rest = refl
    go false rest = rest

-- while it has not begun, all rows are before it, and none is in it
before-all : (s : Stretch) (rows : List Row) → has_begun s rows ≡ false → rows_before s rows ≡ rows
before-all s [] e = refl
before-all s (r ∷ rows) e = go (is_within s r) e (before-all s rows)
  where
    go : (b : Bool) → cond b true (has_begun s rows) ≡ false → (has_begun s rows ≡ false → rows_before s rows ≡ rows) → cond b [] (r ∷ rows_before s rows) ≡ r ∷ rows
    go true f rest = cc
    go false f rest = ap (λ (rs : List Row). r ∷ rs) (rest f)

levels-none : (level : List Row → Row → ℕ) (s : Stretch) (before rows : List Row) → has_begun s rows ≡ false → levels_from level s before rows ≡ []
levels-none level s before [] e = refl
levels-none level s before (r ∷ rows) e = go (is_within s r) e (levels-none level s (before ++ r ∷ []) rows)
  where
    go : (b : Bool) → cond b true (has_begun s rows) ≡ false → (has_begun s rows ≡ false → levels_from level s (before ++ r ∷ []) rows ≡ [])
        → cond b (after (level before r) r ∷ []) [] ++ levels_from level s (before ++ r ∷ []) rows ≡ []
    go true f rest = cc
    go false f rest = rest f

-- once it has begun, no more rows are before it
before-push : (s : Stretch) (rows : List Row) (row : Row) → has_begun s (rows ++ row ∷ []) ≡ true → rows_before s (rows ++ row ∷ []) ≡ rows_before s rows
before-push s [] row e = go (is_within s row) e
  where
    go : (b : Bool) → cond b true false ≡ true → cond b [] (row ∷ []) ≡ []
    go true f = refl
    go false f = cc
before-push s (r ∷ rows) row e = go (is_within s r) e (before-push s rows row)
  where
    go : (b : Bool) → cond b true (has_begun s (rows ++ row ∷ [])) ≡ true
        → (has_begun s (rows ++ row ∷ []) ≡ true → rows_before s (rows ++ row ∷ []) ≡ rows_before s rows)
        → cond b [] (r ∷ rows_before s (rows ++ row ∷ [])) ≡ cond b [] (r ∷ rows_before s rows)
    go true f rest = refl
    go false f rest = ap (λ (rs : List Row). r ∷ rs) (rest f)

-- a number of rows, with one more row
abbrev so_far : (List Row → ℕ) → List Row → Row → ℕ
so_far level before row = level (before ++ row ∷ [])

-- the peak of a number of rows with one more row, by whether the stretch has begun and whether the row lies in it
peak-by : (level : List Row → ℕ) (s : Stretch) (rows : List Row) (row : Row) (begun within : Bool)
    → has_begun s (rows ++ row ∷ []) ≡ begun → is_within s row ≡ within
    → peak_of level s (rows ++ row ∷ [])
    ≡ cond begun (cond within (higher (peak_of level s rows) (after (level (rows ++ row ∷ [])) row)) (peak_of level s rows)) (record { at = s.from; number = level (rows ++ row ∷ []) })
peak-by level s rows row true true e f =
    let start : Peak = record { at = s.from; number = level (rows_before s rows) } in
    let old = levels_from (so_far level) s [] rows in
    let levels = levels-push (so_far level) s [] rows row ∙ ap (λ b. old ++ cond b (after (level (rows ++ row ∷ [])) row ∷ []) []) f in
    rw (before-push s rows row e, levels) (fold_push higher start old (after (level (rows ++ row ∷ [])) row))
peak-by level s rows row true false e f =
    let old = levels_from (so_far level) s [] rows in
    let levels = levels-push (so_far level) s [] rows row ∙ ap (λ b. old ++ cond b (after (level (rows ++ row ∷ [])) row ∷ []) []) f ∙ append-nil old in
    rw (before-push s rows row e, levels) refl
peak-by level s rows row false within e f = rw (before-all s (rows ++ row ∷ []) e, levels-none (so_far level) s [] (rows ++ row ∷ []) e) refl

peak-push : (level : List Row → ℕ) (s : Stretch) (rows : List Row) (row : Row)
    → peak_of level s (rows ++ row ∷ []) ≡ peak_with s (begins_by s row.key.at (has_begun s rows)) row.key.at (level (rows ++ row ∷ [])) (peak_of level s rows)
peak-push level s rows row = peak-by level s rows row (begins_by s row.key.at (has_begun s rows)) (is_within s row) (begun-push s rows row) refl

-- the messages in flight with one more row
flying-push : (rows : List Row) (row : Row) → flying (rows ++ row ∷ []) ≡ flying_with (flight_of row.kind row.answer) (number_of row.message) (flying rows)
flying-push rows row = fold_push (λ ns (r : Row). flying_with (flight_of r.kind r.answer) (number_of r.message) ns) [] rows row

-- the peaks of the depth and of the messages in flight with one more row
depth-push : (s : Stretch) (rows : List Row) (row : Row)
    → peak_of depth s (rows ++ row ∷ [])
    ≡ peak_with s (begins_by s row.key.at (has_begun s rows)) row.key.at (depth_at (level_with (column row.kind row.answer) (level_of rows))) (peak_of depth s rows)
depth-push s rows row =
    peak-push depth s rows row
    ∙ ap (λ (l : Level). peak_with s (begins_by s row.key.at (has_begun s rows)) row.key.at (depth_at l) (peak_of depth s rows)) (level-push rows row)

flight-push : (s : Stretch) (rows : List Row) (row : Row)
    → peak_of in_flight s (rows ++ row ∷ [])
    ≡ peak_with s (begins_by s row.key.at (has_begun s rows)) row.key.at (length (flying_with (flight_of row.kind row.answer) (number_of row.message) (flying rows))) (peak_of in_flight s rows)
flight-push s rows row =
    peak-push in_flight s rows row
    ∙ ap (λ (ns : List ℕ). peak_with s (begins_by s row.key.at (has_begun s rows)) row.key.at (length ns) (peak_of in_flight s rows)) (flying-push rows row)

-- the messages that are there with one more row
there-push : (rows : List Row) (row : Row)
    → there (rows ++ row ∷ []) ≡ there_with (comes_in (column row.kind row.answer)) (flight_of row.kind row.answer) (number_of row.message) row.key.at (there rows)
there-push rows row =
    fold_push there_by [] rows row

-- the greatest age of the oldest message, as one left, with one more row
oldest-push : (s : Stretch) (rows : List Row) (row : Row)
    → oldest_before s (rows ++ row ∷ []) ≡ peak_with s true row.key.at (age_before rows row) (oldest_before s rows)
oldest-push s rows row = ap (fold higher start) (levels-push age_before s [] rows row) ∙ go (is_within s row)
  where
    start : Peak
    start = record { at = s.from; number = 0 }

    old : List Peak
    old = levels_from age_before s [] rows

    go : (b : Bool) → fold higher start (old ++ cond b (after (age_before rows row) row ∷ []) [])
        ≡ cond b (higher (oldest_before s rows) (after (age_before rows row) row)) (oldest_before s rows)
    go true = fold_push higher start old (after (age_before rows row) row)
    go false = ap (fold higher start) (append-nil old)

-- what is counted in a stretch with one more row
within-push : {A : Type 0} (f : List Row → A) (s : Stretch) (rows : List Row) (row : Row) (b : Bool) → is_within s row ≡ b
    → f (rows_within s (rows ++ row ∷ [])) ≡ cond b (f (rows_within s rows ++ row ∷ [])) (f (rows_within s rows))
within-push f s rows row true e = ap f (filter-push (is_within s) rows row ∙ ap (λ b. cond b (rows_within s rows ++ row ∷ []) (rows_within s rows)) e)
within-push f s rows row false e = ap f (filter-push (is_within s) rows row ∙ ap (λ b. cond b (rows_within s rows ++ row ∷ []) (rows_within s rows)) e)

-- the rows of which something holds, with one more row
where-push : (holds : List Row → Row → Bool) (before rows : List Row) (row : Row)
    → rows_where holds before (rows ++ row ∷ []) ≡ rows_where holds before rows ++ cond (holds (before ++ rows) row) (row ∷ []) []
where-push holds before [] row =
    ap (λ (p : List Row). cond (holds p row) (row ∷ []) [] ++ []) (sym (append-nil before)) ∙ append-nil (cond (holds (before ++ []) row) (row ∷ []) [])
where-push holds before (r ∷ rows) row =
    let here = cond (holds before r) (r ∷ []) [] in
    let last = λ (p : List Row). cond (holds p row) (row ∷ []) [] in
    ap (λ (rs : List Row). here ++ rs)
    (where-push holds (before ++ r ∷ []) rows row ∙ ap (λ p. rows_where holds (before ++ r ∷ []) rows ++ last p) (append_assoc before (r ∷ []) rows))
    ∙ sym (append_assoc here (rows_where holds (before ++ r ∷ []) rows) (last (before ++ r ∷ rows)))

-- the age in a row
abbrev age_of : Row → Option ℕ
age_of row = age_in (column row.kind row.answer) row

aged-by : (w : Wanted) (rows : List Row) (row : Row) (age : Option ℕ) (n : ℕ)
    → record { ages = with_age age (ascending (ages rows)); windows = windows_with n age (windows w rows) } ≡ aged_if n age (aged_of w rows)
aged-by w rows row None n = refl
aged-by w rows row (Some age) n = refl

-- the ages with one more row
aged-push : (w : Wanted) (rows : List Row) (row : Row) → aged_of w (rows ++ row ∷ []) ≡ aged_if (window_of w row.key.at) (age_of row) (aged_of w rows)
aged-push w rows row =
    let by_window = fold_push (windows_by w) no_windows rows row in
    rw (ages-push rows row, by_window) (aged-by w rows row (age_of row) (window_of w row.key.at))

-- what is made of such rows of a stretch, with one more row
where-within : {A : Type 0} (f : List Row → A) (holds : List Row → Row → Bool) (s : Stretch) (rows : List Row) (row : Row) (b c : Bool)
    → is_within s row ≡ b → holds rows row ≡ c
    → f (rows_within s (rows_where holds [] (rows ++ row ∷ [])))
    ≡ cond b (cond c (f (rows_within s (rows_where holds [] rows) ++ row ∷ [])) (f (rows_within s (rows_where holds [] rows)))) (f (rows_within s (rows_where holds [] rows)))
where-within f holds s rows row b true e g =
    let chosen = rows_where holds [] rows in
    let pushed = where-push holds [] rows row ∙ ap (λ b. chosen ++ cond b (row ∷ []) []) g in
    ap (λ rs. f (rows_within s rs)) pushed ∙ within-push f s chosen row b e
where-within {A} f holds s rows row b false e g =
    let chosen = rows_where holds [] rows in
    let pushed = where-push holds [] rows row ∙ ap (λ b. chosen ++ cond b (row ∷ []) []) g ∙ append-nil chosen in
    ap (λ rs. f (rows_within s rs)) pushed ∙ same b (f (rows_within s chosen))
  where
    same : (b : Bool) (x : A) → x ≡ cond b x x
    same true x = refl
    same false x = refl

-- the ages in such rows of a stretch, with one more row
where-ages : (holds : List Row → Row → Bool) (w : Wanted) (rows : List Row) (row : Row) (b c : Bool) → is_within w.stretch row ≡ b → holds rows row ≡ c
    → aged_of w (rows_within w.stretch (rows_where holds [] (rows ++ row ∷ [])))
    ≡ cond b (cond c (aged_if (window_of w row.key.at) (age_of row) (aged_of w (rows_within w.stretch (rows_where holds [] rows)))) (aged_of w (rows_within w.stretch (rows_where holds [] rows))))
    (aged_of w (rows_within w.stretch (rows_where holds [] rows)))
where-ages holds w rows row b c e f =
    let chosen = rows_within w.stretch (rows_where holds [] rows) in
    let old = aged_of w chosen in
    where-within (aged_of w) holds w.stretch rows row b c e f ∙ ap (λ (a : Aged). cond b (cond c a old) old) (aged-push w chosen row)

-- when a backlog last ended in a stretch, and when one last began, with one more row
gone-push : (few : ℕ) (s : Stretch) (rows : List Row) (row : Row)
    → (backlogs_of few s (rows ++ row ∷ [])).gone
    ≡ cond (is_within s row) (cond (ends_backlog few rows row) (Some row.key.at) (backlogs_of few s rows).gone) (backlogs_of few s rows).gone
gone-push few s rows row =
    let chosen = rows_within s (rows_where (ends_backlog few) [] rows) in
    where-within last_moment (ends_backlog few) s rows row (is_within s row) (ends_backlog few rows row) refl refl
    ∙ ap (λ (at : Option ℕ). cond (is_within s row) (cond (ends_backlog few rows row) at (last_moment chosen)) (last_moment chosen))
    (fold_push (λ (at : Option ℕ) (r : Row). Some r.key.at) None chosen row)

since-push : (few : ℕ) (s : Stretch) (rows : List Row) (row : Row)
    → (backlogs_of few s (rows ++ row ∷ [])).since ≡ cond (begins_backlog few rows row) (Some row.key.at) (backlogs_of few s rows).since
since-push few s rows row = ap last_moment (where-push (begins_backlog few) [] rows row) ∙ go (begins_backlog few rows row)
  where
    chosen : List Row
    chosen = rows_where (begins_backlog few) [] rows

    go : (b : Bool) → last_moment (chosen ++ cond b (row ∷ []) []) ≡ cond b (Some row.key.at) (last_moment chosen)
    go true = fold_push (λ (at : Option ℕ) (r : Row). Some r.key.at) None chosen row
    go false = ap last_moment (append-nil chosen)

-- the backlogs with one more row
backlogs-push : (few : ℕ) (s : Stretch) (rows : List Row) (row : Row)
    → backlogs_of few s (rows ++ row ∷ [])
    ≡ backlogs_with (is_within s row) row.key.at (is_backlog few rows)
    (nat_lt few (depth_at (level_with (column row.kind row.answer) (level_of rows)) - length (flying_with (flight_of row.kind row.answer) (number_of row.message) (flying rows))))
    (backlogs_of few s rows)
backlogs-push few s rows row =
    let waits : Level → List ℕ → Bool = λ l ns. nat_lt few (depth_at l - length ns) in
    let with_rows : is_backlog few (rows ++ row ∷ []) ≡ waits (level_of (rows ++ row ∷ [])) (flying (rows ++ row ∷ [])) = refl in
    let is : is_backlog few (rows ++ row ∷ [])
    ≡ waits (level_with (column row.kind row.answer) (level_of rows)) (flying_with (flight_of row.kind row.answer) (number_of row.message) (flying rows)) =
    with_rows ∙ ap (λ (l : Level). waits l (flying (rows ++ row ∷ []))) (level-push rows row)
    ∙ ap (waits (level_with (column row.kind row.answer) (level_of rows))) (flying-push rows row) in
    let both : backlogs_of few s (rows ++ row ∷ []) ≡ backlogs_with (is_within s row) row.key.at (is_backlog few rows) (is_backlog few (rows ++ row ∷ [])) (backlogs_of few s rows) =
    rw (gone-push few s rows row, since-push few s rows row) refl in
    both ∙ ap (λ b. backlogs_with (is_within s row) row.key.at (is_backlog few rows) b (backlogs_of few s rows)) is

-- how many rows of a stretch are such by the rows before, with one more row
many-push : (holds : List Row → Row → Bool) (s : Stretch) (rows : List Row) (row : Row)
    → length (rows_within s (rows_where holds [] (rows ++ row ∷ [])))
    ≡ cond (is_within s row) (cond (holds rows row) (length (rows_within s (rows_where holds [] rows)) + 1) (length (rows_within s (rows_where holds [] rows))))
    (length (rows_within s (rows_where holds [] rows)))
many-push holds s rows row =
    let chosen = rows_within s (rows_where holds [] rows) in
    where-within length holds s rows row (is_within s row) (holds rows row) refl refl
    ∙ ap (λ n. cond (is_within s row) (cond (holds rows row) n (length chosen)) (length chosen)) (length-append chosen (row ∷ []))

-- the receives with one more row
polls-push : (s : Stretch) (rows : List Row) (row : Row) → polls_of s (rows ++ row ∷ []) ≡ polls_with (is_within s row) (fact_of row) (polls_of s rows)
polls-push s rows row =
    let waits = fold_push (λ ns (r : Row). waiting_with (hold_of r.kind r.answer) r.agent ns) [] rows row in
    let given = fold_push (λ (g : Option Given) (r : Row). given_by (hold_of r.kind r.answer) r.agent r.key.at) None rows row in
    rw (waits, given, many-push begins_receive s rows row, many-push begins_batch s rows row) refl

-- how often something happened to messages, with one more row
often-push : (holds : List Row → Row → Bool) (number : Row → ℕ) (s : Stretch) (rows : List Row) (row : Row)
    → often holds number s (rows ++ row ∷ []) ≡ cond (is_within s row) (more_if (holds rows row) (number row) (often holds number s rows)) (often holds number s rows)
often-push holds number s rows row =
    let so_far : List Row → Often = fold (λ o r. once_more (number r) o) never in
    let chosen = rows_within s (rows_where holds [] rows) in
    where-within so_far holds s rows row (is_within s row) (holds rows row) refl refl
    ∙ ap (λ (o : Often). cond (is_within s row) (cond (holds rows row) o (so_far chosen)) (so_far chosen))
    (fold_push (λ (o : Often) (r : Row). once_more (number r) o) never chosen row)

-- what is handled with one more row
handled-push : (s : Stretch) (rows : List Row) (row : Row) → handled_of s (rows ++ row ∷ []) ≡ handled_with (is_within s row) (fact_of row) (handled_of s rows)
handled-push s rows row =
    let handling =
    often-push handles (λ r. message_of (own_receipt r)) s rows row
    ∙ ap (λ more. cond (is_within s row) (more_if more (message_of (own_receipt row)) (handled s rows)) (handled s rows))
    (handled-parts (use_of row.kind row.answer) (own_receipt row) (unused rows)) in
    let received = often-push (λ before r. gives (use_of r.kind r.answer)) (λ r. number_of r.message) s rows row in
    rw (parts-push rows row, handling, received) refl

-- how long something held up to the last row, with one more row
time-push : (holds : List Row → Bool) (s : Stretch) (before : List Row) (at : ℕ) (rows : List Row) (row : Row)
    → time_to_last holds s before at (rows ++ row ∷ []) ≡ time_to_last holds s before at rows + cond (holds (before ++ rows)) (overlap s (last_at at rows) row.key.at) 0
time-push holds s before at [] row =
    ap (λ (rs : List Row). cond (holds rs) (overlap s at row.key.at) 0 + 0) (sym (append-nil before)) ∙ omega arith
time-push holds s before at (r ∷ rows) row =
    let here = cond (holds before) (overlap s at r.key.at) 0 in
    let rest = time-push holds s (before ++ r ∷ []) r.key.at rows row in
    let same = ap (λ (rs : List Row). cond (holds rs) (overlap s (last_at r.key.at rows) row.key.at) 0) (append_assoc before (r ∷ []) rows) in
    omega (arith, rest, same)

pub lasting-push : (holds : List Row → Bool) (s : Stretch) (rows : List Row) (row : Row)
    → lasting_of holds s (rows ++ row ∷ []) ≡ lasting_with s (holds rows) row.key.at (lasting_of holds s rows)
lasting-push holds s rows row = rw (time-push holds s [] 0 rows row, fold_push (λ at (r : Row). r.key.at) 0 rows row) refl

-- up to the end of the stretch it is the whole time
time-end : (holds : List Row → Bool) (s : Stretch) (before : List Row) (at : ℕ) (rows : List Row)
    → time_to_last holds s before at rows + cond (holds (before ++ rows)) (overlap s (last_at at rows) s.until) 0 ≡ time_from holds s before at rows
time-end holds s before at [] =
    let same = ap (λ (rs : List Row). cond (holds rs) (overlap s at s.until) 0) (append-nil before) in
    omega (arith, same)
time-end holds s before at (r ∷ rows) =
    let rest = time-end holds s (before ++ r ∷ []) r.key.at rows in
    let same = ap (λ (rs : List Row). cond (holds rs) (overlap s (last_at r.key.at rows) s.until) 0) (append_assoc before (r ∷ []) rows) in
    omega (arith, rest, same)

pub lasting-end : (holds : List Row → Bool) (s : Stretch) (rows : List Row) → lasting_until s (holds rows) (lasting_of holds s rows) ≡ time_while holds s rows
lasting-end holds s rows = time-end holds s [] 0 rows

-- the ages of new messages with one more row
new-push : (queues : ℕ) (w : Wanted) (rows : List Row) (row : Row) (b m : Bool) → is_within w.stretch row ≡ b → is_moved queues rows row ≡ m
    → aged_of w (rows_within w.stretch (rows_of_new queues (rows ++ row ∷ [])))
    ≡ cond b (cond m (aged_of w (rows_within w.stretch (rows_of_new queues rows))) (aged_if (window_of w row.key.at) (age_of row) (aged_of w (rows_within w.stretch (rows_of_new queues rows)))))
    (aged_of w (rows_within w.stretch (rows_of_new queues rows)))
new-push queues w rows row b true e f = where-ages (λ before row. not (is_moved queues before row)) w rows row b false e (ap not f)
new-push queues w rows row b false e f = where-ages (λ before row. not (is_moved queues before row)) w rows row b true e (ap not f)

-- the tries of one more message
one-more_try : (test : ℕ → Bool) (ns : List ℕ) (n : ℕ) (b : Bool) → test n ≡ b → length (filter test (ns ++ n ∷ [])) ≡ length (filter test ns) + cond b 1 0
one-more_try test ns n true e =
    ap length (filter-append test ns (n ∷ []) ∙ ap (λ b. filter test ns ++ cond b (n ∷ []) []) e) ∙ length-append (filter test ns) (n ∷ [])
one-more_try test ns n false e =
    ap length (filter-append test ns (n ∷ []) ∙ ap (λ b. filter test ns ++ cond b (n ∷ []) []) e) ∙ length-append (filter test ns) []

tries-more : (ns : List ℕ) (n : ℕ) → tries_of (ns ++ n ∷ []) ≡ tries_with n (tries_of ns)
tries-more ns n =
    let once = one-more_try (λ n. n == 1) ns n (n == 1) refl in
    let again = one-more_try (λ n. nat_lt 1 n) ns n (nat_lt 1 n) refl in
    let total : sum (ns ++ n ∷ []) ≡ sum ns + n = omega (arith, sum_by-append (λ x. x) ns (n ∷ []), sum_by-cons (λ x. x) n []) in
    let most = fold_push max 0 ns n in
    rw (once, again, total, most) refl

tries-if : (t : Option ℕ) (ns : List ℕ) (row : Row) → tries_of (ns ++ filter_map (λ (r : Row). t) (row ∷ [])) ≡ tries_if t (tries_of ns)
tries-if None ns row = ap tries_of (append-nil ns)
tries-if (Some n) ns row = tries-more ns n

-- what tries come to with one more row
tries-push : (rows : List Row) (row : Row) → tries_of (tries (rows ++ row ∷ [])) ≡ tries_if (tries_when (counts_in 4 row) (own_receipt row)) (tries_of (tries rows))
tries-push rows row =
    ap tries_of (filter_map-append (λ row. tries_when (counts_in 4 row) (own_receipt row)) rows (row ∷ []))
    ∙ tries-if (tries_when (counts_in 4 row) (own_receipt row)) (tries rows) row

-- the messages that came by a move with one more row
moved-push : (queues : ℕ) (rows : List Row) (row : Row) → moved_here queues (rows ++ row ∷ []) ≡ moved_with queues (moved_here queues rows) row
moved-push queues rows row = fold_push (moved_with queues) [] rows row

-- what is counted of the rows in a stretch, with one more row
counts-within : (queues : ℕ) (s : Stretch) (rows : List Row) (row : Row)
    → counts_of queues (rows_within s (rows ++ row ∷ []))
    ≡ cond (is_within s row) (counted (count_of_row queues row) (counts_of queues (rows_within s rows))) (counts_of queues (rows_within s rows))
counts-within queues s rows row =
    within-push (counts_of queues) s rows row (is_within s row) refl
    ∙ ap (λ (ns : List ℕ). cond (is_within s row) ns (counts_of queues (rows_within s rows))) (counts-push queues (rows_within s rows) row)

-- a queue with one more row
queue-push : (queues : ℕ) (w : Wanted) (asked : QueueAsked) (rows : List Row) (row : Row) (b : Bool) → is_within w.stretch row ≡ b
    → queue_state queues w asked (rows ++ row ∷ [])
    ≡ queue_judging w row.key.at (is_backlog w.backlog rows) (queue_peaking w.stretch row.key.at (queue_changing (count_of_row queues row) (fact_of row)
    (queue_timing w.stretch (fact_of row) (cond b (queue_counting (count_of_row queues row) w (fact_of row) (queue_state queues w asked rows)) (queue_state queues w asked rows)))))
queue-push queues w asked rows row true e =
    let s = w.stretch in
    let counts = within-push (counts_of queues) s rows row true e ∙ counts-push queues (rows_within s rows) row in
    let tried = within-push (λ (rs : List Row). tries_of (tries rs)) s rows row true e ∙ tries-push (rows_within s rows) row in
    let old = within-push (aged_of w) s rows row true e ∙ aged-push w (rows_within s rows) row in
    let new = new-push queues w rows row true (is_moved queues rows row) e refl in
    let moved = where-ages (is_moved queues) w rows row true (is_moved queues rows row) e refl in
    let full = lasting-push (is_full asked.quota) s rows row in
    rw (counts, tried, old, new, moved, polls-push s rows row, handled-push s rows row, full, backlogs-push w.backlog s rows row, begun-push s rows row, level-push rows row, depth-push s rows row, flying-push rows row, flight-push s rows row, moved-push queues rows row, there-push rows row, oldest-push s rows row) refl
queue-push queues w asked rows row false e =
    let s = w.stretch in
    let counts = within-push (counts_of queues) s rows row false e in
    let tried = within-push (λ (rs : List Row). tries_of (tries rs)) s rows row false e in
    let old = within-push (aged_of w) s rows row false e in
    let new = new-push queues w rows row false (is_moved queues rows row) e refl in
    let moved = where-ages (is_moved queues) w rows row false (is_moved queues rows row) e refl in
    let full = lasting-push (is_full asked.quota) s rows row in
    rw (counts, tried, old, new, moved, polls-push s rows row, handled-push s rows row, full, backlogs-push w.backlog s rows row, begun-push s rows row, level-push rows row, depth-push s rows row, flying-push rows row, flight-push s rows row, moved-push queues rows row, there-push rows row, oldest-push s rows row) refl

-- an actor with one more row
actor-push : (queues : ℕ) (s : Stretch) (name : List ℕ) (rows : List Row) (row : Row)
    → actor_state queues s name (rows ++ row ∷ []) ≡ actor_with (count_of_row queues row) s (fact_of row) (actor_state queues s name rows)
actor-push queues s name rows row =
    let held = fold_push held_by (record { number = 0; receiving = false }) rows row in
    rw (counts-within queues s rows row, polls-push s rows row, held, lasting-push is_serving s rows row) refl

-- the actors with one more row
actors-push : (n : ℕ) (actors : List (List ℕ)) (s : Stretch) (rows : List Row) (row : Row) (b : Bool) → nat_le n row.agent ≡ b
    → map (λ a. actor_state n s a.1 (rows_by a.0 (rows ++ row ∷ []))) (enumerate_from n actors)
    ≡ cond b (changed (actor_with (count_of_row n row) s (fact_of row)) (row.agent - n) (map (λ a. actor_state n s a.1 (rows_by a.0 rows)) (enumerate_from n actors))) (map (λ a. actor_state n s a.1 (rows_by a.0 rows)) (enumerate_from n actors))
unfolding grouped
actors-push n actors s rows row true e =
    grouped-at (λ (r : Row). r.agent) (λ (name : List ℕ) (rs : List Row). actor_state n s name rs) (actor_with (count_of_row n row) s (fact_of row)) (row.agent - n) n actors rows row
    (λ name rs. actor-push n s name rs row) (grind (arith, nat_tests))
actors-push n actors s rows row false e =
    grouped-later (λ (r : Row). r.agent) (λ (name : List ℕ) (rs : List Row). actor_state n s name rs) n actors rows row (grind (arith, nat_tests))

-- the figures with one more row that is before the end of the stretch
counting-push : (asked : FiguresAsked) (rows : List Row) (row : Row)
    → figures_counting (place_in (length (figured_before asked rows).of_queues) (fact_of row)) (fact_of row) (figured_before asked rows)
    ≡ figured_before asked (rows ++ row ∷ [])
unfolding figured_before grouped
counting-push asked rows row =
    let n = length asked.queues in
    let w = asked.wanted in
    let many : length (figured_before asked rows).of_queues ≡ n =
    length-map (enumerate_from 0 asked.queues) (λ q. queue_state n w q.1 (rows_of q.0 rows)) ∙ length-enumerate_from 0 asked.queues in
    let own = grouped-at (λ (r : Row). r.queue) (λ (q : QueueAsked) (rs : List Row). queue_state n w q rs) (queue_with (count_of_row n row) w (fact_of row)) row.queue 0 asked.queues rows row
    (λ q rs. queue-push n w q rs row (is_within w.stretch row) refl) (omega arith) in
    let others = actors-push n asked.actors w.stretch rows row (nat_le n row.agent) refl in
    let opened = fold_push (λ (d : DoorsState) (r : Row). doors_with w (fact_of r) d) (no_doors asked) rows row in
    rw (many, own, others, opened) refl

-- the figures are what is wanted
pub wanted-is : (asked : FiguresAsked) (rows : List Row) → (figured asked rows).wanted ≡ asked.wanted
unfolding figured figured_before
wanted-is asked rows = refl

-- the figures with one more row
pub figured-push : (asked : FiguresAsked) (rows : List Row) (row : Row) → figures_with (fact_of row) (figured asked rows) ≡ figured asked (rows ++ row ∷ [])
unfolding figured figured_before
figured-push asked rows row =
    let s = asked.wanted.stretch in
    let pushed = filter-push (λ (r : Row). nat_lt r.key.at s.until) rows row in
    let counted = counting-push asked (rows_until s rows) row in
    rw counted (go (nat_lt row.key.at s.until) ∙ sym (ap (figured_before asked) pushed))
  where
    go : (b : Bool) → cond b (figured_before asked (rows_until asked.wanted.stretch rows ++ row ∷ [])) (figured_before asked (rows_until asked.wanted.stretch rows))
        ≡ figured_before asked (cond b (rows_until asked.wanted.stretch rows ++ row ∷ []) (rows_until asked.wanted.stretch rows))
    go true = refl
    go false = refl

-- the figures with more rows
pub figured-append : (asked : FiguresAsked) (before rows : List Row) → figures_after rows (figured asked before) ≡ figured asked (before ++ rows)
figured-append asked before [] = ap (figured asked) (sym (append-nil before))
figured-append asked before (row ∷ rows) =
    ap (figures_after rows) (figured-push asked before row) ∙ figured-append asked (before ++ row ∷ []) rows ∙ ap (figured asked) (append_assoc before (row ∷ []) rows)

-- the same where figures may be wanted
pub asked-append : (figures : Option FiguresAsked) (before rows : List Row)
    → option_map (figures_after rows) (option_map (λ f. figured f before) figures) ≡ option_map (λ f. figured f (before ++ rows)) figures
asked-append None before rows = refl
asked-append (Some asked) before rows = ap Some (figured-append asked before rows)
