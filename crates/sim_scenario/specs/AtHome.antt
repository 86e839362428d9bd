-- What an actor does at its home.
use Rattle.std.specs.Prelude.{All, Bool, List, None, Option, Some, false, filter, map, true, ℕ, ◌==◌, ◌≡◌, ◌≤◌}
use Rattle.sqs_model.specs.declared.agents.ActorSettings.{ActorSettings}
use Rattle.sqs_model.specs.declared.agents.Groups.{Groups}
use Rattle.sqs_model.specs.declared.agents.ProducerSettings.{ProducerSettings}
use Rattle.sqs_model.specs.declared.agents.Role.{Role}
use Rattle.sqs_model.specs.declared.agents.Role.TheVariants.{Consumer, Producer, Scaler, Script}
use Rattle.sqs_redrive.specs.declared.settings.QueueSettings.{QueueSettings}
use Rattle.sqs_redrive.specs.declared.settings.TaskSettings.{TaskSettings}
use Rattle.sqs_model.specs.Longest.{longest_delay}
use Rattle.sqs_model.specs.Scenario.{Scenario, numbered_tasks}
use Rattle.sim_script.specs.Ranges.{IsCallAt}
use Rattle.sim_scenario.specs.Kinds.{is_fifo_queue}

-- whether there are groups
abbrev pub HasGroups : Option Groups → Type 0
HasGroups None = ⊥
HasGroups (Some groups) = Unit {0}

-- a delay in seconds that is not too long, if there is one
abbrev pub MayDelay : Option ℕ → Type 0
MayDelay None = Unit {0}
MayDelay (Some seconds) = seconds ≤ longest_delay

-- a producer sends to groups at a FIFO home, with no delay of its own; at a standard home it gives no groups and no ids
abbrev pub IsSendingAt : Bool → ProducerSettings → Type 0
IsSendingAt true p = HasGroups p.groups × (p.delay ≡ None)
IsSendingAt false p = (p.groups ≡ None) × (p.ids ≡ false) × MayDelay p.delay

-- the numbers of the move tasks that take from a queue
abbrev pub tasks_of : Scenario → ℕ → List ℕ
tasks_of s home = map (λ t. t.0) (filter (λ t. t.1.home == home) (numbered_tasks s))

-- a role that fits the kind of its home, and the move tasks there
abbrev pub FitsHome : Scenario → ℕ → Role → Type 0
FitsHome s home (Script calls) = All (λ c. IsCallAt (is_fifo_queue s home) (tasks_of s home) c.call) calls
FitsHome s home (Producer p) = IsSendingAt (is_fifo_queue s home) p
FitsHome s home (Consumer c) = Unit {0}
FitsHome s home (Scaler z) = Unit {0}

-- a scenario by its parts
abbrev pub scenario_with : ℕ → ℕ → ℕ → List QueueSettings → List ActorSettings → List TaskSettings → List (List ℕ) → Scenario
scenario_with horizon seed sample queues actors tasks names =
    record {
      horizon = horizon;
      seed = seed;
      sample = sample;
      queues = queues;
      actors = actors;
      tasks = tasks;
      names = names;
    }

-- agents of one role at a home, by their names
abbrev pub each_at : ℕ → Role → List (List ℕ) → List (List ℕ × ActorSettings)
each_at home role names = map (λ n. (n, record { home = home; role = role })) names
