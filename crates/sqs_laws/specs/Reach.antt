-- What a change of a scenario cannot reach.
use Rattle.std.specs.Prelude.{Bool, List, filter, false, length, slice_get, slice_index_or, true, ℕ, ◌<◌, ◌==◌, ◌≡◌}
use Rattle.sim_engine.specs.declared.edge.Edge.{Edge}
use Rattle.sim_engine.specs.Members.{In}
use Rattle.sqs_message.specs.declared.row.Row.{Row}
use Rattle.sqs_redrive.specs.declared.settings.TaskSettings.{TaskSettings}
use Rattle.sqs_model.specs.declared.agents.ActorSettings.{ActorSettings}
use Rattle.sqs_model.specs.declared.finals.FinalMessage.{FinalMessage}
use Rattle.sqs_model.specs.Finals.{finals_of}
use Rattle.sqs_model.specs.Progress.{IsSoundScenario}
use Rattle.sqs_model.specs.Run.{IsRunOf, Run}
use Rattle.sqs_model.specs.Scenario.{Scenario, edges, numbered_actors, numbered_tasks}

-- none of these ways leads to some queues from another one
abbrev pub NoneLeadsTo : (ℕ → Bool) → List Edge → Type 0
NoneLeadsTo among ways = (e : Edge) → In ways e → among e.from ≡ false → among e.to ≡ false

-- no way of a scenario does
abbrev pub NoWayLeadsTo : (ℕ → Bool) → Scenario → Type 0
NoWayLeadsTo among s = NoneLeadsTo among (edges s)

-- the actors of a scenario at a queue, with their numbers, and its tasks there with theirs
abbrev pub actors_at : Scenario → ℕ → List (ℕ × ActorSettings)
actors_at s n = filter (λ x. x.1.home == n) (numbered_actors s)

abbrev pub tasks_at : Scenario → ℕ → List (ℕ × TaskSettings)
tasks_at s n = filter (λ x. x.1.home == n) (numbered_tasks s)

-- two scenarios are the same at a queue: it has the same settings, and the same actors and tasks with the same numbers
pub record IsSameAt (s t : Scenario) (n : ℕ) : Type 0 where
  pub queue : slice_get s.queues n ≡ slice_get t.queues n
  pub actors : actors_at s n ≡ actors_at t n
  pub tasks : tasks_at s n ≡ tasks_at t n

-- two scenarios differ only out of reach of some queues: only at queues from which no way leads to these
pub record DifferOutOfReach (among : ℕ → Bool) (s t : Scenario) : Type 0 where
  pub horizon : s.horizon ≡ t.horizon
  pub seed : s.seed ≡ t.seed
  pub sample : s.sample ≡ t.sample
  pub same : (n : ℕ) → among n ≡ true → IsSameAt s t n
  pub ways : NoWayLeadsTo among s × NoWayLeadsTo among t

-- whether a queue is among those that are marked
abbrev pub is_marked : List Bool → ℕ → Bool
is_marked marks n = slice_index_or marks n false

-- marked are just the queues of a scenario that no difference from another one reaches: they are such queues, and all
-- such queues are among them
pub record AreOutOfReach (s t : Scenario) (marks : List Bool) : Type 0 where
  pub many : length marks ≡ length s.queues
  pub differ : (n : ℕ) → is_marked marks n ≡ true → DifferOutOfReach (is_marked marks) s t
  pub most : (among : ℕ → Bool) → DifferOutOfReach among s t → (n : ℕ) → n < length s.queues → among n ≡ true → is_marked marks n ≡ true

-- the rows of a run at some queues, and the messages left there
abbrev pub rows_at : (ℕ → Bool) → Run → List Row
rows_at among r = filter (λ x. among x.queue) r.rows

abbrev pub left_at : (ℕ → Bool) → Run → List FinalMessage
left_at among r = filter (λ m. among m.id.site) (finals_of r.sites).messages

-- the runs of two scenarios give the same rows at some queues, in the same order, and leave the same messages there
abbrev pub RunAlikeAt : (ℕ → Bool) → Scenario → Scenario → Type 0
RunAlikeAt among s t =
    (r x : Run) → IsRunOf s r → IsRunOf t x → (rows_at among r ≡ rows_at among x) × (left_at among r ≡ left_at among x)

-- so do those of sound scenarios that differ only out of reach of these queues
abbrev pub ChangesStayInReach : Type 0
ChangesStayInReach =
    (among : ℕ → Bool) (s t : Scenario) → IsSoundScenario s → IsSoundScenario t → DifferOutOfReach among s t → RunAlikeAt among s t
