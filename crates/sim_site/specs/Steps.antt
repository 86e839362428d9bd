-- The step of a move task, message by message.
use Rattle.std.specs.Prelude.{List, MatchResult, OnOk, Result, Some, length, ℕ, ◌++◌, ◌<◌, ◌≡◌}
use Rattle.sim_clock.specs.declared.key.Key.{Key}
use Rattle.sim_clock.specs.declared.refusal.Refusal.{Refusal}
use Rattle.sim_engine.specs.Limits.{StopsWhere}
use Rattle.sim_site.specs.Effects.{AddsRows, Does, Effects, GoesOn}
use Rattle.sim_site.specs.declared.handling.Handling.{Handling}
use Rattle.sqs_model.specs.Answers.{most_count}
use Rattle.sqs_model.specs.Counts.{task_count}
use Rattle.sqs_model.specs.Draw.{drawn_latency}
use Rattle.sqs_model.specs.Site.{Core, number_of, task_numbered}
use Rattle.sqs_model.specs.Step.{Moved, end_row, move_out, moves, one_sent, step_moved}
use Rattle.sqs_model.specs.Task.{Task}
use Rattle.sqs_redrive.specs.MoveTasks.{task_stepped}
use Rattle.sqs_redrive.specs.declared.answers.Rest.{Rest}
use Rattle.sqs_redrive.specs.declared.transfers.Load.{Load}
use Rattle.sqs_redrive.specs.declared.transfers.Outbound.{Outbound}

-- a task that keeps its number and its state
pub record IsKept (old new : Task) : Type 0 where
  pub number : new.number ≡ old.number
  pub move : new.move ≡ old.move

-- a message is sent on by a task of a site: the transfer, and the task after it
abbrev pub SendsOn : Key → ℕ → Task → ℕ → Load → Outbound → Task → Type 0
SendsOn key site t to load o after =
    (c : Core) → number_of c ≡ site
    → (o ≡ move_out key c t to load (drawn_latency t.move.settings.latency t.draws).0)
    × (after ≡ one_sent t (drawn_latency t.move.settings.latency t.draws).1)

-- messages that were moved: their rows and transfers are added, and the task is as it is after them
pub record DidMove (before after : Effects) (t : Task) (m : Moved) : Type 0 where
  pub task : t ≡ m.task
  pub rows : after.rows.items ≡ before.rows.items ++ m.rows
  pub sent : after.sent.items ≡ before.sent.items ++ m.sent

-- how moves that depend on the key end at a site: the handling went on by them, or they take a count of the task past
-- the limit
abbrev pub Moves : {A : Type 0} → Result A Refusal → Handling → Handling → ℕ → Task → (Key → Core → Moved) → Type 0
Moves result before after site t m =
    MatchResult result
    (λ _. GoesOn before after × ((c : Core) → number_of c ≡ site → DidMove before.effects.now after.effects.now t (m before.key c)))
    (StopsWhere ((c : Core) → number_of c ≡ site → most_count < task_count (m before.key c).task))

-- how a step of a task among a site's tasks ends, which sends these messages on
abbrev pub StepsTask : {A : Type 0} → Result A Refusal → Handling → Handling → ℕ → List Task → List Task → List (ℕ × Load) → Rest → Type 0
StepsTask result before after site old new loads rest =
    (c : Core) (t : Task) → number_of c ≡ site → c.tasks ≡ old → task_numbered before.key.agent c ≡ Some t
    → Does result before after (record c { tasks = new }) (step_moved before.key c (length loads) rest (moves before.key c t loads))

-- whether one more transfer takes a count of a task past the limit
abbrev pub PassesSending : Task → Type 0
PassesSending t = most_count < task_count (one_sent t (drawn_latency t.move.settings.latency t.draws).1)

-- of some moves these are done, and these are left
pub record MoveRemains (before after : Effects) (rest whole : Moved) : Type 0 where
  pub task : rest.task ≡ whole.task
  pub rows : after.rows.items ++ rest.rows ≡ before.rows.items ++ whole.rows
  pub sent : after.sent.items ++ rest.sent ≡ before.sent.items ++ whole.sent

-- a task after a step that moved these
abbrev pub task_after : ℕ → ℕ → Rest → Task → Task
task_after now taken rest t = record t { move = task_stepped t.move now taken rest }

-- a whole step: the moves, and the row of the task's end
abbrev pub stepped_moves : Key → Core → Task → List (ℕ × Load) → Rest → Moved
stepped_moves key c t loads rest =
    let m : Moved = moves key c t loads in
    let after : Task = task_after key.at (length loads) rest m.task in
    record { rows = m.rows ++ end_row key c after rest; sent = m.sent; task = after }

-- the row of a task's end is made, if a step with this rest was its last; nothing is sent
pub record ReportsEnd {A E : Type 0} (result : Result A E) (before after : Handling) (site : ℕ) (t : Task) (rest : Rest) : Type 0 where
  pub on : GoesOn before after
  pub rows : OnOk result ((c : Core) → number_of c ≡ site → AddsRows before after (end_row before.key c t rest))
  pub sent : after.effects.now.sent ≡ before.effects.now.sent
