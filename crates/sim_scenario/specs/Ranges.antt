-- The ranges that a scenario keeps to which was read from a text.
use Rattle.std.specs.Prelude.{All, None, Option, Some, ℕ, ◌+◌, ◌<◌, ◌≡◌, ◌≤◌, length}
use Rattle.sqs_model.specs.declared.agents.Forwarding.{Forwarding}
use Rattle.sqs_model.specs.declared.agents.Role.{Role}
use Rattle.sqs_model.specs.declared.agents.Role.TheVariants.{Consumer, Producer, Scaler, Script}
use Rattle.sqs_model.specs.Progress.{IsSoundScenario}
use Rattle.sqs_model.specs.Scenario.{LeadsWithin, MayBeWithin, Scenario}
use Rattle.sim_script.specs.Ranges.{IsScript}
use Rattle.sim_scenario.specs.AtHome.{FitsHome}
use Rattle.sim_scenario.specs.Kinds.{NamesKin, TasksDrain}
use Rattle.sim_scenario.specs.Naming.{AreNamed}
use Rattle.sqs_model.specs.Valid.{Between, IsConsumer, IsProducer, IsQueueSettings, IsScaler, IsTaskSettings}

-- a role in range
abbrev pub IsRoleInRange : Role → Type 0
IsRoleInRange (Script calls) = IsScript calls
IsRoleInRange (Producer p) = IsProducer p
IsRoleInRange (Consumer c) = IsConsumer c
IsRoleInRange (Scaler s) = IsScaler s

-- the queues to which a consumer forwards, if it does, are among the queues
abbrev pub ForwardsWithin : ℕ → Option Forwarding → Type 0
ForwardsWithin queues None = Unit {0}
ForwardsWithin queues (Some f) = All (λ to. to < queues) f.to

-- the same of any actor
abbrev pub RoleWithin : ℕ → Role → Type 0
RoleWithin queues (Script calls) = Unit {0}
RoleWithin queues (Producer p) = Unit {0}
RoleWithin queues (Consumer c) = ForwardsWithin queues c.forward
RoleWithin queues (Scaler s) = Unit {0}

-- whatever names a queue names one of the scenario
pub record IsLinked (s : Scenario) : Type 0 where
  pub policies : All (λ q. LeadsWithin (length s.queues) q.policy) s.queues
  pub actors : All (λ a. (a.home < length s.queues) × RoleWithin (length s.queues) a.role) s.actors
  pub tasks : All (λ t. (t.home < length s.queues) × MayBeWithin (length s.queues) t.to) s.tasks

-- a scenario in range, in which time moves on
pub record IsInRange (s : Scenario) : Type 0 where
  pub horizon : Between 1 2592000000 s.horizon
  pub seed : s.seed ≤ 9223372036854775807
  pub sample : s.sample ≤ 2592000000
  pub queues : All IsQueueSettings s.queues
  pub actors : All (λ a. IsRoleInRange a.role) s.actors
  pub tasks : All IsTaskSettings s.tasks
  pub sound : IsSoundScenario s
  pub few_queues : Between 1 1000 (length s.queues)
  pub few_agents : length s.actors + length s.tasks ≤ 10000
  pub named : length s.names ≡ length s.queues + length s.actors + length s.tasks
  pub linked : IsLinked s
  pub kin : NamesKin s
  pub names : AreNamed s
  pub drained : TasksDrain s
  pub at_home : All (λ a. FitsHome s a.home a.role) s.actors
