-- What is read off a site, its tasks and what it is given.
use Rattle.std.specs.Prelude.{Bool, List, MatchOption, Option, Result, Vec, [], ℕ}
use Rattle.std.specs.Result.{result_map_both}
use Rattle.std.specs.Global.{Global}
use Rattle.sim_clock.specs.Places.{IsAbsent, Stands}
use Rattle.sim_clock.specs.declared.key.Key.{Key}
use Rattle.sim_clock.specs.declared.refusal.Refusal.{Refusal}
use Rattle.sqs_redrive.specs.declared.answers.Got.{Got}
use Rattle.sqs_redrive.specs.declared.transfers.Load.{Load}
use Rattle.sqs_model.specs.Actor.{Actor}
use Rattle.sqs_model.specs.Arrive.{arrived}
use Rattle.sqs_model.specs.Draw.{Draws}
use Rattle.sqs_model.specs.Polls.{poll_answered, poll_given}
use Rattle.sqs_model.specs.Queue.{Queue}
use Rattle.sqs_model.specs.Site.{Core, Effect, Poll, task_numbered}
use Rattle.sqs_model.specs.Step.{arrival_done, handle_step}
use Rattle.sqs_redrive.specs.declared.settings.TaskSettings.{TaskSettings}
use Rattle.sqs_redrive.specs.declared.settings.TaskStatus.{TaskStatus}
use Rattle.sqs_redrive.specs.declared.settings.TaskStatus.TheVariants.{Cancelled}
use Rattle.sqs_redrive.specs.MoveTasks.{task_started}
use Rattle.sqs_model.specs.Task.{Task}

-- the state of a task
abbrev pub status_of : Task → TaskStatus
status_of t = t.move.status

-- its settings
abbrev pub settings_of : Task → TaskSettings
settings_of t = t.move.settings

-- how many messages it moved since its last start
abbrev pub moved_of : Task → ℕ
moved_of t = t.move.moved

-- a task that is started
abbrev pub started_task : ℕ → Task → Task
started_task now t = record t { move = task_started t.move now }

-- a task that is cancelled
abbrev pub cancelled_task : Task → Task
cancelled_task t = record t { move = record t.move { status = Cancelled } }

-- the place of the first that a test picks, if there is one
abbrev pub IsPlaceOfFirst : {A : Type 0} → (A → Bool) → List A → Option ℕ → Type 0
IsPlaceOfFirst p xs place = MatchOption place (IsAbsent p xs) (Stands p xs)

-- a core whose queue has these actors and tasks, and that has done nothing
abbrev pub idle_core : Queue → List Actor → List Task → Draws → ℕ → Core
idle_core queue actors tasks draws sample =
    record {
      queue = queue;
      actors = actors;
      tasks = tasks;
      polls = [];
      sent = 0;
      draws = draws;
      sample = sample;
      samples = 0;
    }

-- a load that arrives
abbrev pub load_arrives : Key → Load → Core → Effect
load_arrives k load c = arrival_done k load c (arrived c.queue k.at load)

-- the step of a task that is due
abbrev pub step_due : Key → Core → Effect
step_due k c = handle_step k c (task_numbered k.agent c)

-- a waiting poll that is answered by what the queue gives it
abbrev pub poll_served : Key → Poll → Core → Effect
poll_served k p c = poll_answered k p c (poll_given k p c.queue)

-- an answer of a receive as the definitions see it
abbrev pub gots_of : Result (Vec Got Global) Refusal → Result (List Got) Refusal
gots_of answer = result_map_both (λ batch. batch.items) (λ refusal. refusal) answer
