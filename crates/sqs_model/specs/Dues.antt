-- What is due, read off a site.
use Rattle.std.specs.Prelude.{List, None, Option, Some, [], flat_map, if◌then◌else◌, map, ℕ, ◌*◌, ◌++◌, ◌+◌, ◌==◌, ◌∷◌}
use Rattle.sim_clock.specs.declared.key.Class.TheVariants.{Expiry, PollEnd, Release, Sample, Step, Wake}
use Rattle.sim_clock.specs.declared.key.Key.{Key}
use Rattle.sqs_message.specs.declared.message.Message.{Message}
use Rattle.sim_clock.specs.Order.{least}
use Rattle.sqs_model.specs.Actor.{Actor}
use Rattle.sqs_model.specs.Queue.{Queue}
use Rattle.sqs_model.specs.Site.{Core, Poll, Site, number_of}
use Rattle.sqs_model.specs.Task.{Task}
use Rattle.sqs_redrive.specs.MoveTasks.{is_running}
use Rattle.sqs_redrive.specs.Transfers.{transfer_key}

-- the end of a message's delay or visibility timeout
abbrev pub release_due : ℕ → Message → Option ℕ → List Key
release_due site m None = []
release_due site m (Some at) = record { at = at; agent = site; class = Release; number = m.number } ∷ []

-- the end of a message's retention period
abbrev pub expiry_key : ℕ → ℕ → Message → Key
expiry_key site retention m = record { at = m.enqueued + retention; agent = site; class = Expiry; number = m.number }

-- what is due of a message
abbrev pub message_dues : ℕ → ℕ → Message → List Key
message_dues site retention m = expiry_key site retention m ∷ release_due site m m.release

-- what is due of a queue's messages
abbrev pub queue_dues : Queue → List Key
queue_dues q = flat_map (message_dues q.site q.settings.retention) q.records

-- the end of a waiting poll
abbrev pub poll_key : Poll → Key
poll_key p = record { at = p.end; agent = p.actor; class = PollEnd; number = p.number }

-- an actor's wake, if it has one
abbrev pub wake_due : Actor → Option ℕ → List Key
wake_due a None = []
wake_due a (Some at) = record { at = at; agent = a.number; class = Wake; number = a.wakes } ∷ []

-- what is due of an actor
abbrev pub actor_dues : Actor → List Key
actor_dues a = wake_due a a.wake

-- the next sample, if samples are taken
abbrev pub sample_dues : Core → List Key
sample_dues c =
    if c.sample == 0 then []
    else record { at = c.sample * (c.samples + 1); agent = number_of c; class = Sample; number = c.samples } ∷ []

-- the next step of a task that runs
abbrev pub task_dues : Task → List Key
task_dues t =
    if is_running t.move.status then record { at = t.move.step_at; agent = t.number; class = Step; number = t.move.steps } ∷ [] else []

-- what is due at a site but for arrivals
unfoldable pub core_dues : Core → List Key
core_dues c =
    queue_dues c.queue ++ map poll_key c.polls ++ flat_map actor_dues c.actors ++ sample_dues c ++ flat_map task_dues c.tasks

-- what is due at a site
unfoldable pub dues : Site → List Key
dues s = map transfer_key s.arriving ++ core_dues s.core

-- the least due of a site
abbrev pub least_due : Site → Option Key
least_due s = least (dues s)
