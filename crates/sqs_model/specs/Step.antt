-- The handling of a due entry at its site, by its class.
use Rattle.std.specs.Prelude.{Bool, List, None, Option, Some, [], count_by, false, find, length, true, ℕ, ◌++◌, ◌+◌, ◌-◌, ◌∷◌}
use Rattle.sim_clock.specs.declared.key.Class.{Class}
use Rattle.sim_clock.specs.declared.key.Key.{Key}
use Rattle.sqs_message.specs.declared.ids.MessageId.{MessageId}
use Rattle.sqs_message.specs.declared.ids.Origin.{Origin}
use Rattle.sqs_message.specs.declared.row.Row.{Row}
use Rattle.sqs_message.specs.declared.row.RowAnswer.{RowAnswer}
use Rattle.sqs_redrive.specs.declared.answers.Rest.{Rest}
use Rattle.sqs_redrive.specs.declared.answers.Rest.TheVariants.{Empty, More, NoSource}
use Rattle.sqs_redrive.specs.declared.answers.Sent.{Sent}
use Rattle.sqs_redrive.specs.declared.answers.Sent.TheVariants.{New, Repeat}
use Rattle.sqs_redrive.specs.declared.transfers.Load.{Load}
use Rattle.sqs_redrive.specs.declared.transfers.Load.TheVariants.{Forward, Move, Redrive}
use Rattle.sqs_redrive.specs.declared.transfers.Outbound.{Outbound}
use Rattle.sim_clock.specs.Firsts.{without}
use Rattle.sim_clock.specs.Order.{same_key}
use Rattle.sim_engine.specs.Engine.{Handled as HandledBy}
use Rattle.sqs_model.specs.Acts.{came_back, receive_row, row}
use Rattle.sqs_model.specs.declared.acts.Standing.{Standing}
use Rattle.sqs_model.specs.declared.agents.Role.{Role}
use Rattle.sqs_model.specs.declared.agents.Role.TheVariants.{Consumer, Scaler}
use Rattle.sqs_model.specs.declared.agents.Scaling.{Scaling}
use Rattle.sqs_model.specs.Actor.{Actor, copies_by}
use Rattle.sqs_model.specs.Arrive.{arrived, expired}
use Rattle.sqs_model.specs.Draw.{Draws, drawn_latency}
use Rattle.sqs_model.specs.Dues.{poll_key}
use Rattle.sqs_model.specs.Polls.{answer_polls, told}
use Rattle.sqs_model.specs.Queue.{Queue, id_of, in_flight, is_delayed, is_visible}
use Rattle.sqs_model.specs.Return.{released}
use Rattle.sqs_model.specs.Site.{Core, Effect, Poll, Site, actor_numbered, and_then, has_key, no_effect, number_of, says, task_numbered, with_queue, with_task}
use Rattle.sqs_model.specs.Task.{Task, take_movable}
use Rattle.sqs_redrive.specs.MoveTasks.{task_stepped}
use Rattle.sqs_message.specs.declared.row.RowAnswer.TheVariants as answers
use Rattle.sim_clock.specs.declared.key.Class.TheVariants as classes
use Rattle.sqs_message.specs.declared.row.Detail.TheVariants as details
use Rattle.sqs_message.specs.declared.row.RowKind.TheVariants as kinds
use Rattle.sqs_message.specs.declared.row.RowReceipt.TheVariants as receipts
use Rattle.sqs_model.specs.declared.acts.Answer.TheVariants as told_by

-- the row of an expiry
abbrev pub expiry_row : Key → Core → MessageId → ℕ → Row
expiry_row key c id age = row key c (number_of c) kinds.Expire answers.Expired (Some id) receipts.Absent (details.Age age)

-- an expiry with its row
abbrev pub expiry_done : Key → Core → ℕ × Queue → Effect
expiry_done key c (age, q) = says (with_queue c q) (expiry_row key c (id_of q key.number) age)

-- a message reaches the end of its retention period
abbrev pub handle_expiry : Key → Core → Effect
handle_expiry key c = expiry_done key c (expired c.queue key.at key.number)

-- a release with its row
abbrev pub release_done : Key → Core → Queue × Option Load → Effect
release_done key c (q, left) = came_back key (with_queue c q) key.number left

-- a message reaches the end of its delay or visibility timeout
abbrev pub handle_release : Key → Core → Effect
handle_release key c = release_done key c (released c.queue key.number)

-- the origin of the message that an arrival made or repeated
abbrev pub load_origin : Load → MessageId → Origin
load_origin (Redrive id group origin body enqueued) new = origin
load_origin (Move id group origin body) new = origin
load_origin (Forward id group body) new = record { site = new.site; number = new.number }

-- the age of a message that expires as it arrives
abbrev pub load_age : Load → ℕ → ℕ
load_age (Redrive id group origin body enqueued) now = now - enqueued
load_age (Move id group origin body) now = 0
load_age (Forward id group body) now = 0

-- the id of the message that a load was
abbrev pub load_id : Load → MessageId
load_id (Redrive id group origin body enqueued) = id
load_id (Move id group origin body) = id
load_id (Forward id group body) = id

-- the row of an arrival; its agent is the sender
abbrev pub arrival_row : Key → Core → Load → RowAnswer → MessageId → Row
arrival_row key c load answer id = row key c key.agent kinds.Arrive answer (Some id) receipts.Absent (details.From (load_origin load id))

-- the rows of an arrival, by what it made
abbrev pub arrival_rows : Key → Core → Load → Sent × Bool → List Row
arrival_rows key c load (New id, false) = arrival_row key c load answers.New id ∷ []
arrival_rows key c load (New id, true) = arrival_row key c load answers.New id ∷ expiry_row key c id (load_age load key.at) ∷ []
arrival_rows key c load (Repeat id, old) = arrival_row key c load answers.Repeat id ∷ []

-- an arrival with its rows
abbrev pub arrival_done : Key → Load → Core → (Sent × Bool) × Queue → Effect
arrival_done key load c (answer, q) = record { core = with_queue c q; rows = arrival_rows key c load answer; sent = [] }

-- a transfer arrives
abbrev pub handle_arrival : Key → Option Outbound → Core → Effect
handle_arrival key None c = no_effect c
handle_arrival key (Some o) c = arrival_done key o.load c (arrived c.queue key.at o.load)

-- whether a poll ends by this key
abbrev pub ends_at : Key → Poll → Bool
ends_at key p = same_key key (poll_key p)

-- a long poll ends with nothing, which is the answer that its actor gets
abbrev pub handle_poll_end : Key → Core → Effect
handle_poll_end key c =
    and_then (says (record c { polls = without (ends_at key) c.polls }) (receive_row key c key.agent answers.Empty))
    (told key key.agent (told_by.Got []))

-- nothing to go by
abbrev pub no_standing : Standing
no_standing = record { number = 0; next = None }

-- how many copies a scaler lets ask, and when it wakes next
abbrev pub standing_as : Role → Actor → Standing
standing_as (Scaler s) a = record { number = copies_by s a.last_act; next = a.wake }
standing_as role a = no_standing

-- the same if it is there
abbrev pub standing_of : Option Actor → Standing
standing_of None = no_standing
standing_of (Some a) = standing_as a.settings.role a

-- what a copy goes by
abbrev pub copy_standing : Core → Option Scaling → Standing
copy_standing c None = no_standing
copy_standing c (Some s) = standing_of (actor_numbered s.scaler c)

-- what an actor of a role goes by when it wakes
abbrev pub wakes_by : Core → Role → Standing
wakes_by c (Scaler s) = record { number = count_by is_visible c.queue.records; next = None }
wakes_by c (Consumer k) = copy_standing c k.scaling
wakes_by c role = no_standing

-- what an actor goes by, if it is there
abbrev pub woken_by : Core → Option Actor → Standing
woken_by c None = no_standing
woken_by c (Some a) = wakes_by c a.settings.role

-- an actor wakes
abbrev pub handle_wake : Key → Core → Effect
handle_wake key c = told key key.agent (told_by.Wake (woken_by c (actor_numbered key.agent c))) c

-- a queue's counts are sampled
abbrev pub handle_sample : Key → Core → Effect
handle_sample key c =
    says (record c { samples = c.samples + 1 })
    (row key c (number_of c) kinds.Sample answers.Ok None receipts.Absent
    (details.Counts (count_by is_visible c.queue.records) (in_flight c.queue) (count_by is_delayed c.queue.records)))

-- messages that a task moves: rows, transfers, and the task after them
pub record Moved : Type 0 where
  pub rows : List Row
  pub sent : List Outbound
  pub task : Task

-- the row of a message that is moved
abbrev pub move_row : Key → Core → Task → ℕ → Load → Row
move_row key c t to load = row key c t.number kinds.Move answers.Out (Some (load_id load)) receipts.Absent (details.Queue to)

-- its transfer
abbrev pub move_out : Key → Core → Task → ℕ → Load → ℕ → Outbound
move_out key c t to load latency =
    record { at = key.at + latency; sender = t.number; number = t.sent; from = number_of c; to = to; load = load }

-- one message moved before others
abbrev pub moved_one : Key → Core → Task → ℕ → Load → ℕ → Moved → Moved
moved_one key c t to load latency others =
    record others { rows = move_row key c t to load ∷ others.rows; sent = move_out key c t to load latency ∷ others.sent }

-- a task that sent one more transfer
abbrev pub one_sent : Task → Draws → Task
one_sent t draws = record t { sent = t.sent + 1; draws = draws }

-- all that a step took, moved in order, each with a latency drawn
abbrev pub moves : Key → Core → Task → List (ℕ × Load) → Moved
moves key c t [] = record { rows = []; sent = []; task = t }
moves key c t (x ∷ rest) =
    let drawn = drawn_latency t.move.settings.latency t.draws in
    moved_one key c t x.0 x.1 drawn.0 (moves key c (one_sent t drawn.1) rest)

-- the row of a task that ends
abbrev pub end_row : Key → Core → Task → Rest → List Row
end_row key c t Empty = row key c t.number kinds.Task answers.Completed None receipts.Absent (details.Moved t.move.moved) ∷ []
end_row key c t More = []
end_row key c t NoSource = row key c t.number kinds.Task answers.Failed None receipts.Absent (details.Moved t.move.moved) ∷ []

-- a step with its rows and transfers, and the task after it
abbrev pub step_done : Key → Core → Rest → Moved → Task → Effect
step_done key c rest m t = record { core = with_task c t; rows = m.rows ++ end_row key c t rest; sent = m.sent }

-- a step that took these messages
abbrev pub step_moved : Key → Core → ℕ → Rest → Moved → Effect
step_moved key c taken rest m = step_done key c rest m (record m.task { move = task_stepped m.task.move key.at taken rest })

-- a step by what it took
abbrev pub handle_taken : Key → Core → Task → (List (ℕ × Load) × Rest) × Queue → Effect
handle_taken key c t ((loads, rest), q) = step_moved key (with_queue c q) (length loads) rest (moves key (with_queue c q) t loads)

-- a move task takes its next step
abbrev pub handle_step : Key → Core → Option Task → Effect
handle_step key c None = no_effect c
handle_step key c (Some t) = handle_taken key c t (take_movable c.queue t.move.settings.per_second t.move.settings.to)

-- what is due at a site but for arrivals, by its class
unfoldable pub handle_class : Class → Key → Core → Effect
handle_class classes.Expiry key c = handle_expiry key c
handle_class classes.Release key c = handle_release key c
handle_class classes.Arrival key c = no_effect c
handle_class classes.PollEnd key c = handle_poll_end key c
handle_class classes.Wake key c = handle_wake key c
handle_class classes.Sample key c = handle_sample key c
handle_class classes.Step key c = handle_step key c (task_numbered key.agent c)

-- an effect, and after it the answers to waiting polls
abbrev pub with_polls : Key → Effect → Effect
with_polls key e = and_then e (λ c. answer_polls key c.polls c)

-- a site after a handling, the rows made, and what was sent
abbrev pub Handled : Type 0
Handled = HandledBy Site Row Outbound

-- an effect at a site that leaves these transfers on their way to it
abbrev pub left_with : List Outbound → Effect → Handled
left_with arriving e = record { site = record { core = e.core; arriving = arriving }; rows = e.rows; sent = e.sent }

-- whether a class is that of arrivals
abbrev pub is_arrival : Class → Bool
is_arrival classes.Expiry = false
is_arrival classes.Release = false
is_arrival classes.Arrival = true
is_arrival classes.PollEnd = false
is_arrival classes.Wake = false
is_arrival classes.Sample = false
is_arrival classes.Step = false

-- the handling of an arrival, or of anything else, which looks at nothing that is on its way
abbrev pub handled_when : Bool → Key → Site → Handled
handled_when true key s =
    left_with (without (has_key key) s.arriving)
    (with_polls key (handle_arrival key (find (has_key key) s.arriving) s.core))
handled_when false key s = left_with s.arriving (with_polls key (handle_class key.class key s.core))

-- the handling of a due entry at its site
unfoldable pub handled : Key → Site → Handled
handled key s = handled_when (is_arrival key.class) key s
