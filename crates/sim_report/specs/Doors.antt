-- Ages from door to door: since the first send of a message, over its forwards, redrives and moves.
use Rattle.std.specs.Prelude.{ℕ, zero, suc, ◌+◌, ◌-◌, ◌==◌, nat_le, ◌&&◌, Bool, true, false, codes, cond, List, [], ◌∷◌, ◌++◌, flat_map, fold, get_or, length, map, replicate, slice_get, sum_by, unwrap_or, Some, None}
use Rattle.std.specs.List.{enumerate_from, list_any}
use Rattle.sqs_message.specs.declared.row.Row.{Row}
use Rattle.sim_report.specs.declared.aged.Aged.{Aged}
use Rattle.sim_report.specs.declared.asked.Wanted.{Wanted}
use Rattle.sim_report.specs.declared.asked.Way.{Way}
use Rattle.sim_report.specs.declared.course.Course.{Course}
use Rattle.sim_report.specs.declared.course.Course.TheVariants as courses
use Rattle.sim_report.specs.declared.fact.Fact.{Fact}
use Rattle.sim_report.specs.declared.forwards.FirstSend.{FirstSend}
use Rattle.sim_report.specs.declared.forwards.How.{How}
use Rattle.sim_report.specs.declared.forwards.How.TheVariants as hows
use Rattle.sim_report.specs.Facts.{fact_of}
use Rattle.sim_report.specs.Figures.{Figure, FiguresAsked, age_names, aged_with, ages_named, figure_fields, no_aged, window_of}
use Rattle.sim_report.specs.Forwards.{ForwardsState, arrived_by, leaves_open, next_to, sent_by, unknown}
use Rattle.sim_report.specs.Running.{changed}

-- a queue: the first sends of its messages, as they came; how many messages went out; how many are on their way to it
-- by a redrive or a move; the ages of those that were deleted in the stretch, unless nothing is known of them; how many
-- these are; and how many are known only if forwards kept their order
pub record DoorState : Type 0 where
  pub came : List FirstSend
  pub gone : ℕ
  pub coming : ℕ
  pub ages : Aged
  pub unknown : ℕ
  pub unsure : ℕ

abbrev pub no_door : DoorState
no_door = record { came = []; gone = 0; coming = 0; ages = no_aged; unknown = 0; unsure = 0 }

abbrev pub entered : FirstSend → DoorState → DoorState
entered first q = record q { came = q.came ++ first ∷ [] }

abbrev pub came_on : FirstSend → DoorState → DoorState
came_on first q = record q { came = q.came ++ first ∷ []; coming = q.coming - 1 }

abbrev pub set_out : DoorState → DoorState
set_out q = record q { coming = q.coming + 1 }

abbrev pub left : DoorState → DoorState
left q = record q { gone = q.gone + 1 }

-- the first send of a message
abbrev pub first_in : ℕ → DoorState → FirstSend
first_in number q = unwrap_or (slice_get q.came number) unknown

abbrev pub first_of : ℕ → ℕ → List DoorState → FirstSend
first_of queue number qs = first_in number (get_or qs queue no_door)

-- with an age in the window with this number, which is so well known
abbrev pub counted_as : How → ℕ → ℕ → DoorState → DoorState
counted_as hows.Surely window age q = record q { ages = aged_with window age q.ages }
counted_as hows.IfOrdered window age q = record q { ages = aged_with window age q.ages; unsure = q.unsure + 1 }
counted_as hows.Unknown window age q = record q { unknown = q.unknown + 1 }

abbrev pub ended : Wanted → ℕ → ℕ → DoorState → DoorState
ended w number at q =
    let first = first_in number q in
    left (cond (nat_le w.stretch.from at) (counted_as first.how (window_of w at) (at - first.at) q) q)

-- all queues and the forwards of all actors
pub record DoorsState : Type 0 where
  pub ways : List Way
  pub of_queues : List DoorState
  pub of_actors : List (List ForwardsState)

-- of no rows, with these ways, and so many queues and actors
abbrev pub none_of : List Way → ℕ → ℕ → DoorsState
none_of ways queues actors =
    record { ways = ways; of_queues = replicate queues no_door; of_actors = replicate actors [] }

abbrev pub no_doors : FiguresAsked → DoorsState
no_doors asked = none_of asked.ways (length asked.queues) (length asked.actors)

-- the queues with a change of one, and the actors with a change of one; so many queues are the first agents
abbrev pub at_queue : (DoorState → DoorState) → ℕ → DoorsState → DoorsState
at_queue change n d = record d { of_queues = changed change n d.of_queues }

abbrev pub actors_after : ℕ → ℕ → (List ForwardsState → List ForwardsState) → List (List ForwardsState)
    → List (List ForwardsState)
actors_after queues agent change actors = cond (nat_le queues agent) (changed change (agent - queues) actors) actors

abbrev pub at_actor : (List ForwardsState → List ForwardsState) → ℕ → DoorsState → DoorsState
at_actor change agent d = record d { of_actors = actors_after (length d.of_queues) agent change d.of_actors }

-- what the next forward of an agent is of that arrives at a queue
abbrev pub next_by : ℕ → ℕ → ℕ → List (List ForwardsState) → FirstSend
next_by queues agent to actors = cond (nat_le queues agent) (next_to to (get_or actors (agent - queues) [])) unknown

-- with one more row, which says this of the course of its message
abbrev pub doors_by : Course → Wanted → Fact → DoorsState → DoorsState
doors_by courses.Sent w f d = at_queue (entered (record { at = f.at; how = hows.Surely })) f.count.queue d
doors_by (courses.CameOn origin) w f d =
    at_queue (came_on (first_of origin.site origin.number d.of_queues)) f.count.queue d
doors_by courses.Came w f d =
    at_actor (arrived_by f.count.queue f.at true) f.agent
    (at_queue (entered (next_by (length d.of_queues) f.agent f.count.queue d.of_actors)) f.count.queue d)
doors_by courses.CameAgain w f d = at_actor (arrived_by f.count.queue f.at false) f.agent d
doors_by (courses.Forwarded to) w f d =
    at_actor (sent_by to f.at (first_of f.count.queue f.number d.of_queues)) f.agent d
doors_by (courses.WentOn to) w f d = at_queue set_out to (at_queue left f.count.queue d)
doors_by courses.Ended w f d = at_queue (ended w f.number f.at) f.count.queue d
doors_by courses.Expired w f d = at_queue left f.count.queue d
doors_by courses.Stayed w f d = d

abbrev pub doors_with : Wanted → Fact → DoorsState → DoorsState
doors_with w f d = doors_by f.course w f d

-- after these rows
abbrev pub doors : FiguresAsked → List Row → DoorsState
doors asked rows = fold (λ d row. doors_with asked.wanted (fact_of row) d) (no_doors asked) rows

-- the queues from which marked ones can be reached, marked too: by one way, and by ways of so many steps at least
abbrev pub reach_by : List Bool → Way → List Bool
reach_by marks way = cond (get_or marks way.to false) (changed (λ m. true) way.from marks) marks

abbrev pub reach : ℕ → List Way → List Bool → List Bool
reach zero ways marks = marks
reach (suc n) ways marks = reach n ways (fold reach_by marks ways)

-- a queue and those from which it can be reached
abbrev pub before : ℕ → List Way → ℕ → List Bool
before queues ways n = reach queues ways (changed (λ m. true) n (replicate queues false))

-- whether forwards to a marked queue leave open which message came
abbrev pub is_open : List Bool → List ForwardsState → Bool
is_open marks fs = list_any (λ (f : ForwardsState). leaves_open f && get_or marks f.to false) fs

-- how many deletions of a queue have a first send that is open
abbrev pub open_in : List Bool → List (List ForwardsState) → DoorState → ℕ
open_in marks actors q = q.unknown + cond (list_any (is_open marks) actors) q.unsure 0

-- how many messages are there, and how many are there in marked queues or under way to one
abbrev pub left_in : DoorState → ℕ
left_in q = length q.came - q.gone

abbrev pub in_marked : List Bool → ℕ × DoorState → ℕ
in_marked marks q = cond (get_or marks q.0 false) (q.1.coming + left_in q.1) 0

abbrev pub to_marked : List Bool → ForwardsState → ℕ
to_marked marks f = cond (get_or marks f.to false) (length f.under_way) 0

abbrev pub all_marked : List Bool → DoorsState → ℕ
all_marked marks d =
    sum_by (in_marked marks) (enumerate_from 0 d.of_queues)
    + sum_by (λ (fs : List ForwardsState). sum_by (to_marked marks) fs) d.of_actors

-- the figures of a queue: of its ages, unless a first send is open
abbrev pub none_named : List Figure
none_named = map (λ name. (name, None)) (age_names (codes "door_age"))

abbrev pub door_numbers : Wanted → List Bool → DoorsState → DoorState → List Figure
door_numbers w marks d q =
    let many = open_in marks d.of_actors q in
    cond (many == 0) (ages_named (codes "door_age") w q.ages) none_named
    ++ ((codes "door_age_open", Some many) ∷ (codes "door_age_may_come", Some (all_marked marks d - left_in q)) ∷ [])

-- the figure of an actor: 1 if its forwards to some queue leave open which message came
abbrev pub doubt_number : List ForwardsState → List Figure
doubt_number fs = (codes "forwards_in_doubt", Some (cond (list_any leaves_open fs) 1 0)) ∷ []

-- the records of the figures of a queue with a name
abbrev pub records_of_door : Wanted → List Bool → DoorsState → DoorState → List ℕ → List (List (List ℕ))
records_of_door w marks d q name = map (figure_fields name) (door_numbers w marks d q)

-- the same of a queue and of an actor, by its number and its name
abbrev pub records_of_queue : Wanted → DoorsState → ℕ × List ℕ → List (List (List ℕ))
records_of_queue w d q =
    records_of_door w (before (length d.of_queues) d.ways q.0) d (get_or d.of_queues q.0 no_door) q.1

abbrev pub records_of_actor : DoorsState → ℕ × List ℕ → List (List (List ℕ))
records_of_actor d a = map (figure_fields a.1) (doubt_number (get_or d.of_actors a.0 []))

-- those of queues and those of actors with these names
abbrev pub queue_doors : Wanted → List (List ℕ) → DoorsState → List (List (List ℕ))
queue_doors w names d = flat_map (records_of_queue w d) (enumerate_from 0 names)

abbrev pub actor_doors : List (List ℕ) → DoorsState → List (List (List ℕ))
actor_doors names d = flat_map (records_of_actor d) (enumerate_from 0 names)

abbrev pub doors_records : Wanted → List (List ℕ) → List (List ℕ) → DoorsState → List (List (List ℕ))
doors_records w queues actors d = queue_doors w queues d ++ actor_doors actors d
