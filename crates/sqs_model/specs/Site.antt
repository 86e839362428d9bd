-- A site: a queue with its actors and tasks, and the transfers on their way to it.
use Rattle.std.specs.Ordering.{on}
use Rattle.std.specs.Prelude.{Bool, List, Option, [], find, ℕ, ◌++◌, ◌==◌, ◌∷◌}
use Rattle.sim_clock.specs.declared.key.Key.{Key}
use Rattle.sqs_message.specs.declared.row.Row.{Row}
use Rattle.sqs_redrive.specs.declared.transfers.Outbound.{Outbound}
use Rattle.sim_clock.specs.Firsts.{changed}
use Rattle.sim_clock.specs.Order.{inserted_by, key_cmp, same_key}
use Rattle.sqs_model.specs.Actor.{Actor}
use Rattle.sqs_model.specs.Draw.{Draws}
use Rattle.sqs_model.specs.Queue.{Queue}
use Rattle.sqs_model.specs.Task.{Task}
use Rattle.sqs_redrive.specs.Transfers.{transfer_key}

-- a receive that waits, until its end
pub record Poll : Type 0 where
  pub actor : ℕ
  pub number : ℕ
  pub max : ℕ
  pub timeout : Option ℕ
  pub end : ℕ

-- a site without what is on its way: polls wait oldest first; sent and draws are the queue's; samples have an interval
pub record Core : Type 0 where
  pub queue : Queue
  pub actors : List Actor
  pub tasks : List Task
  pub polls : List Poll
  pub sent : ℕ
  pub draws : Draws
  pub sample : ℕ
  pub samples : ℕ

-- a site; the transfers on their way to it are in the order of their keys
pub record Site : Type 0 where
  pub core : Core
  pub arriving : List Outbound

-- the number of a site, which is its queue's
abbrev pub number_of : Core → ℕ
number_of c = c.queue.site

-- whether a transfer has this key
abbrev pub has_key : Key → Outbound → Bool
has_key key o = same_key key (transfer_key o)

-- a site with one more transfer on its way to it
abbrev pub accepted : Outbound → Site → Site
accepted o s = record s { arriving = inserted_by (on transfer_key key_cmp) o s.arriving }

-- what some acts at a site made: the site after them, rows, and transfers sent
pub record Effect : Type 0 where
  pub core : Core
  pub rows : List Row
  pub sent : List Outbound

-- nothing happened
abbrev pub no_effect : Core → Effect
no_effect c = record { core = c; rows = []; sent = [] }

-- a row, and nothing else
abbrev pub says : Core → Row → Effect
says c r = record { core = c; rows = r ∷ []; sent = [] }

-- two effects, the second of the site that the first left
abbrev pub joined : Effect → Effect → Effect
joined e g = record { core = g.core; rows = e.rows ++ g.rows; sent = e.sent ++ g.sent }

-- an effect, and then what comes of the site that it leaves
abbrev pub and_then : Effect → (Core → Effect) → Effect
and_then e f = joined e (f e.core)

-- a site with another queue
abbrev pub with_queue : Core → Queue → Core
with_queue c q = record c { queue = q }

-- whether an actor has this number
abbrev pub is_actor : ℕ → Actor → Bool
is_actor n a = a.number == n

-- the actor of this number
abbrev pub actor_numbered : ℕ → Core → Option Actor
actor_numbered n c = find (is_actor n) c.actors

-- a site with an actor in the place of the one of its number
abbrev pub with_actor : Core → Actor → Core
with_actor c a = record c { actors = changed (is_actor a.number) (λ _. a) c.actors }

-- whether a task has this number
abbrev pub is_task : ℕ → Task → Bool
is_task n t = t.number == n

-- the task of this number
abbrev pub task_numbered : ℕ → Core → Option Task
task_numbered n c = find (is_task n) c.tasks

-- a site with a task in the place of the one of its number
abbrev pub with_task : Core → Task → Core
with_task c t = record c { tasks = changed (is_task t.number) (λ _. t) c.tasks }
