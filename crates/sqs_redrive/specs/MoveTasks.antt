-- What becomes of a message that comes back, and the states of a move task.
use Rattle.std.specs.Prelude.{ℕ, ◌+◌, Bool, false, true, nat_le, Result, Ok, Err, if◌then◌else◌}
use Rattle.sim_clock.specs.declared.refusal.Refusal.{Refusal}
use Rattle.sim_clock.specs.declared.refusal.Refusal.TheVariants as refusals
use Rattle.sqs_message.specs.declared.message.Message.{Message}
use Rattle.sqs_redrive.specs.declared.answers.Rest.{Rest}
use Rattle.sqs_redrive.specs.declared.answers.Rest.TheVariants.{Empty, More, NoSource}
use Rattle.sqs_redrive.specs.declared.answers.Returned.{Returned}
use Rattle.sqs_redrive.specs.declared.answers.Returned.TheVariants.{Stays, Leaves}
use Rattle.sqs_redrive.specs.declared.settings.Policy.{Policy}
use Rattle.sqs_redrive.specs.declared.settings.TaskSettings.{TaskSettings}
use Rattle.sqs_redrive.specs.declared.settings.TaskStatus.{TaskStatus}
use Rattle.sqs_redrive.specs.declared.settings.TaskStatus.TheVariants.{Cancelled, Completed, Failed, Idle, Running}

-- whether a message was received as often as a policy allows
abbrev pub is_worn : Policy → Message → Bool
is_worn p m = nat_le p.max_receives m.receives

-- what becomes of a message that would be visible again
abbrev pub returned_by : Policy → Message → Returned
returned_by p m = if is_worn p m then Leaves else Stays

-- a move task: moved counts since its start, steps for ever
pub record MoveTask : Type 0 where
  pub settings : TaskSettings
  pub status : TaskStatus
  pub moved : ℕ
  pub step_at : ℕ
  pub steps : ℕ

-- a task that was never started
abbrev pub opening_move : TaskSettings → MoveTask
opening_move settings = record { settings = settings; status = Idle; moved = 0; step_at = 0; steps = 0 }

-- whether a task has steps to come
abbrev pub is_running : TaskStatus → Bool
is_running Idle = false
is_running Running = true
is_running Completed = false
is_running Cancelled = false
is_running Failed = false

-- a task that is started; its first step is a second later
abbrev pub task_started : MoveTask → ℕ → MoveTask
task_started t now = record t { status = Running; moved = 0; step_at = now + 1000 }

-- a start of a task, which is refused while it is running
abbrev pub started : MoveTask → ℕ → Result (Unit {0}) Refusal × MoveTask
started t now = if is_running t.status then (Err refusals.TaskRunning, t) else (Ok tt, task_started t now)

-- a task that is cancelled, if it runs; what it sent stays on its way
abbrev pub task_cancelled : MoveTask → Result (Unit {0}) Refusal × MoveTask
task_cancelled t =
    if is_running t.status then (Ok tt, record t { status = Cancelled }) else (Err refusals.NoTask, t)

-- the state of a task after a step
abbrev pub task_status : Rest → TaskStatus
task_status Empty = Completed
task_status More = Running
task_status NoSource = Failed

-- a task after a step that took some messages; the next step is a second later
abbrev pub task_stepped : MoveTask → ℕ → ℕ → Rest → MoveTask
task_stepped t now taken rest =
    record t { status = task_status rest; moved = t.moved + taken; step_at = now + 1000; steps = t.steps + 1 }
