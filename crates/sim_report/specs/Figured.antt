-- The running figures of queues and actors.
use Rattle.std.specs.Prelude.{ℕ, ◌+◌, ◌-◌, ◌==◌, ◌&&◌, nat_le, nat_lt, not, Bool, true, false, codes, cond, max, List, [], ◌∷◌, ◌++◌, filter_map, fold, length, map, zip, Option, Some, None}
use Rattle.std.specs.BTreeMap.{is_at}
use Rattle.std.specs.BTreeSet.{insert_key}
use Rattle.std.specs.List.{enumerate_from, list_any}
use Rattle.std.specs.Ordering.{nat_cmp}
use Rattle.std.specs.Set.{remove_key}
use Rattle.sqs_message.specs.declared.row.Row.{Row}
use Rattle.sqs_formats.specs.Report.{ages, ascending, count, depth, is_column, numbers, rows_of}
use Rattle.sim_report.specs.declared.fact.Fact.{Fact}
use Rattle.sim_report.specs.declared.aged.Aged.{Aged}
use Rattle.sim_report.specs.declared.asked.QueueAsked.{QueueAsked}
use Rattle.sim_report.specs.declared.asked.Wanted.{Wanted}
use Rattle.sim_report.specs.declared.backlogs.Backlogs.{Backlogs}
use Rattle.sim_report.specs.declared.stretch.Stretch.{Stretch}
use Rattle.sim_report.specs.declared.held.Held.{Held}
use Rattle.sim_report.specs.declared.lasting.Lasting.{Lasting}
use Rattle.sim_report.specs.declared.level.Level.{Level}
use Rattle.sim_report.specs.declared.fact.Use.{Use}
use Rattle.sim_report.specs.declared.fact.Use.TheVariants.{Calls, Deletes, Gives, Passes}
use Rattle.sim_report.specs.declared.peak.Peak.{Peak}
use Rattle.sim_report.specs.declared.polls.Polls.{Polls}
use Rattle.sim_report.specs.declared.tries.Tries.{Tries}
use Rattle.sim_report.specs.Doors.{DoorsState, doors, doors_records, doors_with}
use Rattle.sim_report.specs.Facts.{fact_of, place_in}
use Rattle.sim_report.specs.Figures.{Figure, FiguresAsked, Often, age_by, age_of_oldest, aged_with, ages_named, ages_at, apart, batches, begins_backlog, bound_names, bound_numbers, comes_in, count_names, counts_of, ends_backlog, figure_fields, flying, flying_with, given_by, gives, handled, held_after, held_with, higher, in_flight, is_asked, is_first, is_full, is_given, is_serving, last_given, last_moment, message_of, moved_by, moved_here, named_counts, named_peak, named_often, named_requests, named_services, named_tries, never, no_aged, oldest_before, once_more, overlap, peak_of, receipt_cmp, received, receives_asked, rows_by, rows_of_moved, rows_of_new, rows_until, rows_where, rows_within, there, there_with, tries, tries_of, tries_when, unused, unused_with, waiting, waiting_with, window_of, windows}
use Rattle.sim_report.specs.Running.{changed}
use Rattle.sim_report.specs.Tally.{counted}

-- how many messages came into a queue by these rows, and how many went out
abbrev pub level_of : List Row → Level
level_of rows =
    record { came = count 0 rows + count 8 rows; went = count 4 rows + count 5 rows + count 6 rows + count 7 rows }

-- one if a row is in this column
abbrev pub one_in : ℕ → Option ℕ → ℕ
one_in n c = cond (is_column n c) 1 0

-- the level after a row with this column
abbrev pub level_with : Option ℕ → Level → Level
level_with c l =
    record {
      came = l.came + (one_in 0 c + one_in 8 c);
      went = l.went + (one_in 4 c + one_in 5 c + one_in 6 c + one_in 7 c);
    }

-- the messages that are there
abbrev pub depth_at : Level → ℕ
depth_at l = l.came - l.went

-- whether some of these rows are not before a stretch
abbrev pub has_begun : Stretch → List Row → Bool
has_begun s [] = false
has_begun s (row ∷ rows) = cond (nat_le s.from row.key.at) true (has_begun s rows)

-- whether it has begun with a row of this moment
abbrev pub begins_by : Stretch → ℕ → Bool → Bool
begins_by s at begun = cond begun true (nat_le s.from at)

-- a peak with one more row of this moment, after which the number is this; whether the stretch has begun by then is known
abbrev pub peak_with : Stretch → Bool → ℕ → ℕ → Peak → Peak
peak_with s begun at n p =
    cond begun (cond (nat_le s.from at) (higher p (record { at = at; number = n })) p) (record { at = s.from; number = n })

-- tries with those of one more message
abbrev pub tries_with : ℕ → Tries → Tries
tries_with n t =
    record {
      once = t.once + cond (n == 1) 1 0;
      again = t.again + cond (nat_lt 1 n) 1 0;
      sum = t.sum + n;
      greatest = max t.greatest n;
    }

-- with those of one more message, if there is one
abbrev pub tries_if : Option ℕ → Tries → Tries
tries_if None t = t
tries_if (Some n) t = tries_with n t

-- the moment of the last of these rows, or the one before them
abbrev pub last_at : ℕ → List Row → ℕ
last_at at rows = fold (λ at (row : Row). row.key.at) at rows

-- how long something held in a stretch of the rows before, from a moment to the next row's, and so on to the last row's
abbrev pub time_to_last : (List Row → Bool) → Stretch → List Row → ℕ → List Row → ℕ
time_to_last holds s before at [] = 0
time_to_last holds s before at (row ∷ rows) =
    cond (holds before) (overlap s at row.key.at) 0 + time_to_last holds s (before ++ row ∷ []) row.key.at rows

-- the same from the beginning on, with the last moment
abbrev pub lasting_of : (List Row → Bool) → Stretch → List Row → Lasting
lasting_of holds s rows = record { at = last_at 0 rows; total = time_to_last holds s [] 0 rows }

-- with one more row at this moment, where it is known whether something held until then
abbrev pub lasting_with : Stretch → Bool → ℕ → Lasting → Lasting
lasting_with s holds at l = record { at = at; total = l.total + cond holds (overlap s l.at at) 0 }

-- how long it held, up to the end of the stretch
abbrev pub lasting_until : Stretch → Bool → Lasting → ℕ
lasting_until s holds l = l.total + cond holds (overlap s l.at s.until) 0

-- when a backlog last began, and when one last ended in a stretch
abbrev pub backlogs_of : ℕ → Stretch → List Row → Backlogs
backlogs_of few s rows =
    record {
      since = last_moment (rows_where (begins_backlog few) [] rows);
      gone = last_moment (rows_within s (rows_where (ends_backlog few) [] rows));
    }

-- the same with one more row at this moment, before and after which there was a backlog or not
abbrev pub backlogs_with : Bool → ℕ → Bool → Bool → Backlogs → Backlogs
backlogs_with within at was is b =
    record { since = cond (not was && is) (Some at) b.since; gone = cond within (cond (was && not is) (Some at) b.gone) b.gone }

-- the polls that wait, to whom the last row gave a message, and how many receives were asked for and gave messages
abbrev pub polls_of : Stretch → List Row → Polls
polls_of s rows =
    record { waiting = waiting rows; given = last_given rows; asked = receives_asked s rows; batches = batches s rows }

-- whether a fact is of the first row of a receive
abbrev pub asks : Fact → Polls → Bool
asks f p = is_asked f.hold (list_any (λ n. n == f.agent) p.waiting) (is_given p.given f.agent f.at)

-- with one more fact, which lies in the stretch or not
abbrev pub polls_with : Bool → Fact → Polls → Polls
polls_with within f p =
    record {
      waiting = waiting_with f.hold f.agent p.waiting;
      given = given_by f.hold f.agent f.at;
      asked = cond within (cond (asks f p) (p.asked + 1) p.asked) p.asked;
      batches = cond within (cond (is_first f.hold (is_given p.given f.agent f.at)) (p.batches + 1) p.batches) p.batches;
    }

-- of no rows
abbrev pub no_polls : Polls
no_polls = record { waiting = []; given = None; asked = 0; batches = 0 }

-- the message of a receipt if that is of a first receive, and else the receipt
abbrev pub first_receipt : ℕ × ℕ → Option ℕ
first_receipt r = cond (r.1 == 1) (Some r.0) None

abbrev pub later_receipt : ℕ × ℕ → Option (ℕ × ℕ)
later_receipt r = cond (r.1 == 1) None (Some r)

-- unused receipts: of those of a first receive the messages, and all others
pub record Unused : Type 0 where
  pub first : List ℕ
  pub later : List (ℕ × ℕ)

abbrev pub unused_parts : List (ℕ × ℕ) → Unused
unused_parts rs = record { first = filter_map first_receipt rs; later = filter_map later_receipt rs }

-- those of a first receive with one more row that uses one of them
abbrev pub first_with : Use → ℕ → List ℕ → List ℕ
first_with Gives n ns = insert_key nat_cmp ns n
first_with Passes n ns = ns
first_with what n ns = remove_key (is_at (nat_cmp n)) ns

-- with one more row, which does this with this receipt
abbrev pub unused_next : Use → Option (ℕ × ℕ) → Unused → Unused
unused_next what None u = u
unused_next what (Some r) u =
    cond (r.1 == 1) (record u { first = first_with what r.0 u.first })
    (record u { later = unused_with what (Some r) u.later })

-- whether a row that does this handles a receive
abbrev pub handled_in : Use → Option (ℕ × ℕ) → Unused → Bool
handled_in Deletes (Some r) u = true
handled_in Calls (Some r) u =
    cond (r.1 == 1) (list_any (λ n. n == r.0) u.first) (list_any (is_at (receipt_cmp r)) u.later)
handled_in what receipt u = false

-- the unused receipts, and the messages that were handled and received in a stretch
pub record HandledState : Type 0 where
  pub unused : Unused
  pub handled : Often
  pub received : Often

abbrev pub handled_of : Stretch → List Row → HandledState
handled_of s rows = record { unused = unused_parts (unused rows); handled = handled s rows; received = received s rows }

-- of no rows
abbrev pub not_handled : HandledState
not_handled = record { unused = unused_parts []; handled = never; received = never }

-- with one more message, if there is one
abbrev pub more_if : Bool → ℕ → Often → Often
more_if more n o = cond more (once_more n o) o

-- with one more fact, which lies in the stretch or not
abbrev pub handled_with : Bool → Fact → HandledState → HandledState
handled_with within f h =
    let handles = handled_in f.handling f.receipt h.unused in
    record {
      unused = unused_next f.handling f.receipt h.unused;
      handled = cond within (more_if handles (message_of f.receipt) h.handled) h.handled;
      received = cond within (more_if (gives f.handling) f.number h.received) h.received;
    }

-- the ages in these rows in ascending order, and by windows of time
abbrev pub aged_of : Wanted → List Row → Aged
aged_of w rows = record { ages = ascending (ages rows); windows = windows w rows }

-- with one more age in the window with this number, if there is one
abbrev pub aged_if : ℕ → Option ℕ → Aged → Aged
aged_if n None a = a
aged_if n (Some age) a = aged_with n age a

-- the ages of all messages, of those that came by no move, and of those that came by one
pub record AgesApart : Type 0 where
  pub all : Aged
  pub others : Aged
  pub moved : Aged

abbrev pub none_apart : AgesApart
none_apart = record { all = no_aged; others = no_aged; moved = no_aged }

-- with one more age in the window with this number, of a message that came by a move or not
abbrev pub apart_with : Bool → ℕ → ℕ → AgesApart → AgesApart
apart_with moved n age a =
    record {
      all = aged_with n age a.all;
      others = cond moved a.others (aged_with n age a.others);
      moved = cond moved (aged_with n age a.moved) a.moved;
    }

-- the running figures of a queue
pub record QueueState : Type 0 where
  pub asked : QueueAsked
  pub counts : List ℕ
  pub polls : Polls
  pub handled : HandledState
  pub tries : Tries
  pub ages : Aged
  pub new_ages : Aged
  pub moved_ages : Aged
  pub begun : Bool
  pub level : Level
  pub flying : List ℕ
  pub moved : List ℕ
  pub there : List (ℕ × ℕ)
  pub depth : Peak
  pub in_flight : Peak
  pub oldest : Peak
  pub full : Lasting
  pub backlogs : Backlogs

-- the ages of its deletions
abbrev pub apart_by : QueueState → AgesApart
apart_by q = record { all = q.ages; others = q.new_ages; moved = q.moved_ages }

-- the counts of no rows
abbrev pub no_counts : List ℕ
no_counts = map (λ n. 0) (numbers 0 count_names)

-- the peak of no rows
abbrev pub no_peak : Stretch → Peak
no_peak s = record { at = s.from; number = 0 }

-- the running figures of a queue without rows
abbrev pub fresh_queue : Stretch → QueueAsked → QueueState
fresh_queue s asked =
    record {
      asked = asked;
      counts = no_counts;
      polls = no_polls;
      handled = not_handled;
      tries = tries_of [];
      ages = no_aged;
      new_ages = no_aged;
      moved_ages = no_aged;
      begun = false;
      level = level_of [];
      flying = [];
      moved = [];
      there = [];
      depth = no_peak s;
      in_flight = no_peak s;
      oldest = no_peak s;
      full = record { at = 0; total = 0 };
      backlogs = record { since = None; gone = None };
    }

-- after these rows of it
abbrev pub queue_state : ℕ → Wanted → QueueAsked → List Row → QueueState
queue_state queues w asked rows =
    let s = w.stretch in
    record {
      asked = asked;
      counts = counts_of queues (rows_within s rows);
      polls = polls_of s rows;
      handled = handled_of s rows;
      tries = tries_of (tries (rows_within s rows));
      ages = aged_of w (rows_within s rows);
      new_ages = aged_of w (rows_within s (rows_of_new queues rows));
      moved_ages = aged_of w (rows_within s (rows_of_moved queues rows));
      begun = has_begun s rows;
      level = level_of rows;
      flying = flying rows;
      moved = moved_here queues rows;
      there = there rows;
      depth = peak_of depth s rows;
      in_flight = peak_of in_flight s rows;
      oldest = oldest_before s rows;
      full = lasting_of (is_full asked.quota) s rows;
      backlogs = backlogs_of w.backlog s rows;
    }

-- whether the message of a fact had come by a move
abbrev pub was_moved : Fact → QueueState → Bool
was_moved f q = list_any (λ n. n == f.number) q.moved

-- with what lies in the stretch, which counts as this
abbrev pub queue_counting : Option ℕ → Wanted → Fact → QueueState → QueueState
queue_counting place w f q =
    let aged : Aged → Aged = aged_if (window_of w f.at) f.count.age in
    record q {
      counts = counted place q.counts;
      tries = tries_if (tries_when (is_column 4 f.count.column) f.receipt) q.tries;
      ages = aged q.ages;
      new_ages = cond (was_moved f q) q.new_ages (aged q.new_ages);
      moved_ages = cond (was_moved f q) (aged q.moved_ages) q.moved_ages;
    }

-- with what the row of a fact changes of the messages that are there
abbrev pub queue_changing : Option ℕ → Fact → QueueState → QueueState
queue_changing place f q =
    record q {
      level = level_with f.count.column q.level;
      flying = flying_with f.flight f.number q.flying;
      moved = moved_by place f.flight f.number q.moved;
      there = there_with (comes_in f.count.column) f.flight f.number f.at q.there;
    }

-- with the numbers of messages at a moment, whether the stretch has begun by then or not
abbrev pub queue_peaking : Stretch → ℕ → QueueState → QueueState
queue_peaking s at q =
    record q {
      begun = begins_by s at q.begun;
      depth = peak_with s (begins_by s at q.begun) at (depth_at q.level) q.depth;
      in_flight = peak_with s (begins_by s at q.begun) at (length q.flying) q.in_flight;
    }

-- whether as many messages are in flight as may be
abbrev pub is_full_by : QueueState → Bool
is_full_by q = nat_le q.asked.quota (length q.flying)

-- whether more messages than so many are there and not in flight
abbrev pub is_backlog_by : ℕ → QueueState → Bool
is_backlog_by few q = nat_lt few (depth_at q.level - length q.flying)

-- with how long the quota was reached and how old the oldest message was before the row of a fact, the receives, and
-- what is handled
abbrev pub queue_timing : Stretch → Fact → QueueState → QueueState
queue_timing s f q =
    record q {
      polls = polls_with (nat_le s.from f.at) f q.polls;
      handled = handled_with (nat_le s.from f.at) f q.handled;
      full = lasting_with s (is_full_by q) f.at q.full;
      oldest = peak_with s true f.at (age_by f.flight f.at q.there) q.oldest;
    }

-- with the backlog at a moment, before which there was one or not
abbrev pub queue_judging : Wanted → ℕ → Bool → QueueState → QueueState
queue_judging w at was q =
    record q { backlogs = backlogs_with (nat_le w.stretch.from at) at was (is_backlog_by w.backlog q) q.backlogs }

-- with one more fact, which counts as this, up to the numbers of messages
abbrev pub queue_counted : Option ℕ → Wanted → Fact → QueueState → QueueState
queue_counted place w f q =
    let s = w.stretch in
    queue_changing place f (queue_timing s f (cond (nat_le s.from f.at) (queue_counting place w f q) q))

-- with one more fact, which counts as this
abbrev pub queue_with : Option ℕ → Wanted → Fact → QueueState → QueueState
queue_with place w f q =
    queue_judging w f.at (is_backlog_by w.backlog q) (queue_peaking w.stretch f.at (queue_counted place w f q))

-- what is left of a queue's messages, how long as many were in flight as may be, and its last backlog
unfoldable pub left_by : Wanted → QueueState → List Figure
left_by w q =
    (codes "left", Some (depth_at q.level)) ∷ (codes "left_in_flight", Some (length q.flying))
    ∷ (codes "quota_ms", Some (lasting_until w.stretch (is_full_by q) q.full))
    ∷ (codes "backlog_gone_at_ms", cond (is_backlog_by w.backlog q) None q.backlogs.gone)
    ∷ (codes "backlog_since_ms", cond (is_backlog_by w.backlog q) q.backlogs.since None) ∷ []

-- the greatest age of its oldest message, as one left or at the last moment of a stretch
abbrev pub oldest_by : Stretch → QueueState → Peak
oldest_by s q = higher q.oldest (record { at = s.until - 1; number = age_of_oldest (s.until - 1) q.there })

-- its peaks
unfoldable pub peaks_by : Stretch → QueueState → List Figure
peaks_by s q =
    named_peak (codes "depth") [] q.depth
    ++ (named_peak (codes "in_flight") [] q.in_flight ++ named_peak (codes "oldest_age") (codes "_ms") (oldest_by s q))

-- the figures of ages
unfoldable pub queue_ages : Wanted → QueueState → List Figure
queue_ages w q =
    ages_named (codes "age") w q.ages
    ++ (ages_named (codes "new_age") w q.new_ages ++ ages_named (codes "moved_age") w q.moved_ages)

-- the bounds of ages, with the ages of the messages that are left, or with these messages
abbrev pub age_bounds : Wanted → List ℕ → Aged → List (Option ℕ)
age_bounds w left a = bound_numbers w a.ages a.windows left

abbrev pub bounds_named : List ℕ → Wanted → List (ℕ × ℕ) → Aged → List Figure
bounds_named name w ms a =
    zip (bound_names name) (age_bounds w (ascending (ages_at (w.stretch.until - 1) ms)) a)

unfoldable pub bounds_by : Wanted → QueueState → List Figure
bounds_by w q =
    bounds_named (codes "age") w q.there q.ages
    ++ (bounds_named (codes "new_age") w (apart false q.moved q.there) q.new_ages
    ++ bounds_named (codes "moved_age") w (apart true q.moved q.there) q.moved_ages)

-- those that are neither counts nor ages
abbrev pub queue_sizes : Wanted → QueueState → List Figure
queue_sizes w q =
    peaks_by w.stretch q ++ (left_by w q ++ (named_tries q.tries ++ named_often q.handled.handled q.handled.received))

-- the figures of a queue
abbrev pub queue_numbers : Wanted → QueueState → List Figure
queue_numbers w q =
    named_counts q.counts
    ++ (named_requests q.polls.asked q.counts ++ (queue_sizes w q ++ (queue_ages w q ++ bounds_by w q)))

-- the running figures of an actor
pub record ActorState : Type 0 where
  pub name : List ℕ
  pub counts : List ℕ
  pub polls : Polls
  pub held : Held
  pub busy : Lasting

-- with one more fact, which counts as this
abbrev pub actor_with : Option ℕ → Stretch → Fact → ActorState → ActorState
actor_with place s f a =
    record a {
      counts = cond (nat_le s.from f.at) (counted place a.counts) a.counts;
      polls = polls_with (nat_le s.from f.at) f a.polls;
      held = held_with f.hold a.held;
      busy = lasting_with s (nat_lt 0 a.held.number) f.at a.busy;
    }

-- of no rows
abbrev pub fresh_actor : List ℕ → ActorState
fresh_actor name =
    record {
      name = name;
      counts = no_counts;
      polls = no_polls;
      held = held_after [];
      busy = record { at = 0; total = 0 };
    }

-- after these rows of it
abbrev pub actor_state : ℕ → Stretch → List ℕ → List Row → ActorState
actor_state queues s name rows =
    record {
      name = name;
      counts = counts_of queues (rows_within s rows);
      polls = polls_of s rows;
      held = held_after rows;
      busy = lasting_of is_serving s rows;
    }

-- the figures of an actor
abbrev pub actor_numbers : Stretch → ActorState → List Figure
actor_numbers s a =
    named_counts a.counts
    ++ (named_requests a.polls.asked a.counts
    ++ named_services s a.counts a.polls.batches (lasting_until s (nat_lt 0 a.held.number) a.busy))

-- the running figures of all queues and of all actors, and what ages from door to door need
pub record FiguresState : Type 0 where
  pub wanted : Wanted
  pub of_queues : List QueueState
  pub of_actors : List ActorState
  pub doors : DoorsState

-- the running figures of actors with one more fact, which counts as this, at its own actor alone; so many queues are the
-- first agents
abbrev pub actors_with : ℕ → Option ℕ → Stretch → Fact → List ActorState → List ActorState
actors_with queues place s f actors =
    cond (nat_le queues f.agent) (changed (actor_with place s f) (f.agent - queues) actors) actors

-- with one more fact, which counts as this, at its own queue and its own actor alone
abbrev pub figures_counting : Option ℕ → Fact → FiguresState → FiguresState
figures_counting place f t =
    record t {
      of_queues = changed (queue_with place t.wanted f) f.count.queue t.of_queues;
      of_actors = actors_with (length t.of_queues) place t.wanted.stretch f t.of_actors;
      doors = doors_with t.wanted f t.doors;
    }

-- with one more fact, if it is before the end of the stretch
abbrev pub figures_with : Fact → FiguresState → FiguresState
figures_with f t =
    cond (nat_lt f.at t.wanted.stretch.until) (figures_counting (place_in (length t.of_queues) f) f t) t

-- with more rows
abbrev pub figures_after : List Row → FiguresState → FiguresState
figures_after rows t = fold (λ t row. figures_with (fact_of row) t) t rows

-- what is asked for after these rows, which are before the end of the stretch
unfoldable pub figured_before : FiguresAsked → List Row → FiguresState
figured_before asked rows =
    let queues = length asked.queues in
    record {
      wanted = asked.wanted;
      of_queues = map (λ q. queue_state queues asked.wanted q.1 (rows_of q.0 rows)) (enumerate_from 0 asked.queues);
      of_actors = map (λ a. actor_state queues asked.wanted.stretch a.1 (rows_by a.0 rows)) (enumerate_from queues asked.actors);
      doors = doors asked rows;
    }

-- after these rows
unfoldable pub figured : FiguresAsked → List Row → FiguresState
figured asked rows = figured_before asked (rows_until asked.wanted.stretch rows)

-- the records of a queue's figures
abbrev pub queue_records : Wanted → QueueState → List (List (List ℕ))
queue_records w q = map (figure_fields q.asked.name) (queue_numbers w q)

-- the records of an actor's figures
abbrev pub actor_records : Stretch → ActorState → List (List (List ℕ))
actor_records s a = map (figure_fields a.name) (actor_numbers s a)

-- the names of queues and actors
abbrev pub queue_name : QueueState → List ℕ
queue_name q = q.asked.name

abbrev pub actor_name : ActorState → List ℕ
actor_name a = a.name

-- the records of the figures of doors
abbrev pub door_records : FiguresState → List (List (List ℕ))
door_records t =
    doors_records t.wanted (map queue_name t.of_queues) (map actor_name t.of_actors) t.doors
