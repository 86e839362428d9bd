-- Time moves on: what a sound site is, and that a handling reduces the number of entries due by its moment, and never
-- increases the number due by an earlier one.
use Rattle.std.specs.Prelude.{All, Contains, List, None, Option, Some, [], drop, ℕ, ◌+◌, ◌<◌, ◌∷◌, ◌≡◌, ◌≢◌, ◌≤◌}
use Rattle.sim_clock.specs.declared.key.Key.{Key}
pub use Rattle.sim_engine.specs.Members.{Ascends, count_due}
use Rattle.sqs_model.specs.declared.agents.Forwarding.{Forwarding}
use Rattle.sqs_model.specs.declared.agents.Role.{Role}
use Rattle.sqs_model.specs.declared.agents.Role.TheVariants.{Consumer, Producer, Scaler, Script}
use Rattle.sqs_model.specs.declared.agents.Distribution.{Distribution}
use Rattle.sqs_model.specs.declared.agents.Distribution.TheVariants.{Quantiles, Uniform}
use Rattle.sqs_redrive.specs.declared.settings.Latency.{Latency}
use Rattle.sqs_redrive.specs.declared.settings.Policy.{Policy}
use Rattle.sqs_redrive.specs.declared.settings.QueueSettings.{QueueSettings}
use Rattle.sqs_redrive.specs.declared.transfers.Load.{Load}
use Rattle.sqs_redrive.specs.declared.transfers.Load.TheVariants as loads
use Rattle.sqs_redrive.specs.declared.transfers.Outbound.{Outbound}
use Rattle.sqs_model.specs.Actor.{Actor, first_at}
use Rattle.sqs_model.specs.Dues.{dues}
use Rattle.sqs_model.specs.Queue.{Queue}
use Rattle.sqs_model.specs.Scenario.{Scenario, opening}
use Rattle.sqs_model.specs.Site.{Core, Site}
use Rattle.sqs_model.specs.Step.{Handled, handled}
use Rattle.sqs_model.specs.Longest.{deduplication_interval}

-- whether no two have one number
abbrev pub Differ : {A : Type 0} → (A → ℕ) → List A → Type 0
Differ number [] = Unit {0}
Differ number (x ∷ xs) = All (λ y. number y ≢ number x) xs × Differ number xs

-- a transfer takes at least a millisecond
abbrev pub TakesTime : Latency → Type 0
TakesTime l = 1 ≤ l.least

-- so does one to the dead-letter queue
abbrev pub IsSoundPolicy : Option Policy → Type 0
IsSoundPolicy None = Unit {0}
IsSoundPolicy (Some p) = TakesTime p.latency

-- so does a forward
abbrev pub IsSoundForward : Option Forwarding → Type 0
IsSoundForward None = Unit {0}
IsSoundForward (Some f) = TakesTime f.latency

-- a queue keeps messages for a millisecond at least
pub record IsSoundSettings (s : QueueSettings) : Type 0 where
  pub retention : 1 ≤ s.retention
  pub policy : IsSoundPolicy s.policy

-- a distribution of times of a millisecond at least
abbrev pub IsSoundDistribution : Distribution → Type 0
IsSoundDistribution (Uniform low high) = 1 ≤ low
IsSoundDistribution (Quantiles quantiles) = All (λ q. 1 ≤ q.time) quantiles

-- a script's calls have ascending times; an actor that wakes by a draw or after a rest does so later, and so does a scaler
abbrev pub IsSoundRole : Role → Type 0
IsSoundRole (Script script) = Ascends (λ c. c.at) 0 script
IsSoundRole (Producer p) = IsSoundDistribution p.gap
IsSoundRole (Consumer c) = IsSoundDistribution c.service × (1 ≤ c.idle) × IsSoundForward c.forward
IsSoundRole (Scaler s) = s.reading < s.every

-- a scenario in which time moves on
pub record IsSoundScenario (s : Scenario) : Type 0 where
  pub queues : All IsSoundSettings s.queues
  pub actors : All (λ a. IsSoundRole a.role) s.actors
  pub tasks : All (λ t. TakesTime t.latency) s.tasks

-- messages are in the order of their numbers, which were all given out
pub record IsSoundQueue (q : Queue) : Type 0 where
  pub settings : IsSoundSettings q.settings
  pub ordered : Ascends (λ m. m.number) 0 q.records
  pub given_out : All (λ m. m.number < q.arrivals) q.records

-- a script wakes for its next call
abbrev pub WakesFor : Role → Actor → Type 0
WakesFor (Script script) a = a.wake ≡ first_at (drop a.wakes script)
WakesFor (Producer p) a = Unit {0}
WakesFor (Consumer c) a = Unit {0}
WakesFor (Scaler s) a = Unit {0}

-- an actor of a sound role
pub record IsSoundActor (a : Actor) : Type 0 where
  pub role : IsSoundRole a.settings.role
  pub wakes : WakesFor a.settings.role a

-- a site in which time moves on: its parts are sound, and its actors and tasks are in the order of their numbers
pub record IsSound (c : Core) : Type 0 where
  pub queue : IsSoundQueue c.queue
  pub actors : All IsSoundActor c.actors
  pub actors_ordered : Ascends (λ a. a.number) 0 c.actors
  pub tasks : All (λ t. TakesTime t.move.settings.latency) c.tasks
  pub tasks_ordered : Ascends (λ t. t.number) 0 c.tasks

-- what a handling of a key does that is due at a sound site
pub record MovesOn (key : Key) (s : Site) (h : Handled) : Type 0 where
  -- the site stays sound
  pub sound : IsSound h.site.core
  -- by no earlier moment is more due there than before
  pub before : (moment : ℕ) → moment < key.at → count_due moment (dues h.site) ≤ count_due moment (dues s)
  -- by its own moment less is
  pub falls : count_due key.at (dues h.site) < count_due key.at (dues s)
  -- what is sent arrives later
  pub sent_later : All (λ o. key.at < o.at) h.sent

-- every handling of what is due at a sound site does
abbrev pub HandlingMovesOn : Type 0
HandlingMovesOn = (key : Key) (s : Site) → IsSound s.core → Contains (dues s) key → MovesOn key s (handled key s)

-- no deduplication entry of a queue came after a moment
abbrev pub IsRecent : ℕ → Queue → Type 0
IsRecent now q = All (λ e. e.end ≤ now + deduplication_interval) q.entries

-- a handling leaves no entry from after its moment
abbrev pub HandlingStaysRecent : Type 0
HandlingStaysRecent = (key : Key) (s : Site) → IsRecent key.at s.core.queue → IsRecent key.at (handled key s).site.core.queue

-- a run of a sound scenario begins with sound sites
abbrev pub OpeningIsSound : Type 0
OpeningIsSound = (s : Scenario) → IsSoundScenario s → All (λ site. IsSound site.core) (opening s)

-- whether what a load carries was enqueued by a moment
abbrev pub WasEnqueuedBy : ℕ → Load → Type 0
WasEnqueuedBy now (loads.Redrive id group origin body enqueued) = enqueued ≤ now
WasEnqueuedBy now (loads.Move id group origin body) = Unit {0}
WasEnqueuedBy now (loads.Forward id group body) = Unit {0}

-- no message of a queue was enqueued after a moment
abbrev pub IsFilledBy : ℕ → Queue → Type 0
IsFilledBy now q = All (λ m. m.enqueued ≤ now) q.records

-- no transfer carries a message that was enqueued after its arrival
abbrev pub AreTimely : List Outbound → Type 0
AreTimely transfers = All (λ o. WasEnqueuedBy o.at o.load) transfers

-- what a handling leaves and sends
pub record KeepsTime (key : Key) (h : Handled) : Type 0 where
  -- no message of the queue was enqueued after its moment
  pub filled : IsFilledBy key.at h.site.core.queue
  -- none on its way to the site was enqueued after its arrival
  pub arriving : AreTimely h.site.arriving
  -- none that is sent was enqueued after its arrival
  pub sent : AreTimely h.sent

-- a handling enqueues nothing after its moment
abbrev pub HandlingKeepsTime : Type 0
HandlingKeepsTime = (key : Key) (s : Site) → IsFilledBy key.at s.core.queue → AreTimely s.arriving → KeepsTime key (handled key s)
