-- The actors and tasks of a scenario, each at its home.
use Rattle.std.specs.Prelude.{All, List, [], filter, map, ℕ, ◌+◌, ◌==◌, ◌∷◌, ◌≡◌, length}
use Rattle.sqs_model.specs.declared.agents.ActorSettings.{ActorSettings}
use Rattle.sqs_redrive.specs.declared.settings.QueueSettings.{QueueSettings}
use Rattle.sqs_redrive.specs.declared.settings.TaskSettings.{TaskSettings}
use Rattle.sqs_model.specs.Scenario.{Scenario, numbered_actors, numbered_tasks}
use Rattle.sim_actor.specs.Lives.{IsRole}
use Rattle.sim_site.specs.Kept.{HasShortWaits}
use Rattle.sqs_model.specs.Progress.{Ascends}
use Rattle.sqs_model.specs.Valid.{IsLatency}
use Rattle.sqs_rehearsal.specs.declared.opening.Home.{Home}
use Rattle.std.specs.List.{enumerate_from}

-- the actors of a home
abbrev pub actors_in : Home → List (ℕ × ActorSettings)
actors_in h = h.actors.items

-- its tasks
abbrev pub tasks_in : Home → List (ℕ × TaskSettings)
tasks_in h = h.tasks.items

-- a home with nothing there
pub record IsVacant (h : Home) : Type 0 where
  pub actors : actors_in h ≡ []
  pub tasks : tasks_in h ≡ []

-- whether each of some homes, numbered from n on, has the agents whose home it is, in their order
abbrev pub AtHome : {A : Type 0} → (A → ℕ) → ℕ → List (List (ℕ × A)) → List (ℕ × A) → Type 0
AtHome home n [] agents = Unit {0}
AtHome home n (here ∷ rest) agents = (here ≡ filter (λ x. home x.1 == n) agents) × AtHome home (n + 1) rest agents

-- whether homes have these actors, or these tasks
abbrev pub HaveActors : List Home → List (ℕ × ActorSettings) → Type 0
HaveActors homes actors = AtHome (λ a. a.home) 0 (map actors_in homes) actors

abbrev pub HaveTasks : List Home → List (ℕ × TaskSettings) → Type 0
HaveTasks homes tasks = AtHome (λ t. t.home) 0 (map tasks_in homes) tasks

-- homes, by number, of all these actors and tasks
pub record IsSettled (homes : List Home) (roles : List (ℕ × ActorSettings)) (moves : List (ℕ × TaskSettings)) : Type 0 where
  pub actors : HaveActors homes roles
  pub tasks : HaveTasks homes moves

-- the same of agents that are numbered behind so many queues, first the actors and then the tasks
abbrev pub IsSettledBehind : ℕ → List ActorSettings → List TaskSettings → List Home → Type 0
IsSettledBehind queues actors tasks homes =
    IsSettled homes (enumerate_from queues actors) (enumerate_from (queues + length actors) tasks)

-- a home with which a site can be set up: roles are in range, waits are short, latencies are in range, and each task
-- has its own number
pub record IsFit (h : Home) : Type 0 where
  pub roles : All (λ x. IsRole x.1.role) (actors_in h)
  pub waits : All (λ a. HasShortWaits a.role) (map (λ x. x.1) (actors_in h))
  pub latencies : All (λ t. IsLatency t.1.latency) (tasks_in h)
  pub numbered : Ascends (λ t. t.0) 0 (tasks_in h)

-- what holds of a scenario of these queues, with this seed and time between samples, whose agents are in their homes
abbrev pub OfHomes : ℕ → ℕ → List QueueSettings → List Home → (Scenario → Type 0) → Type 0
OfHomes seed sample queues homes P =
    (s : Scenario) → s.seed ≡ seed → s.sample ≡ sample → s.queues ≡ queues → IsSettled homes (numbered_actors s) (numbered_tasks s) → P s
