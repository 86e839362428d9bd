-- The ranges of settings. Times are milliseconds.
use Rattle.std.specs.Prelude.{All, List, None, Option, Some, [], length, ℕ, ◌*◌, ◌<◌, ◌≤◌, ◌∷◌}
use Rattle.sqs_model.specs.declared.agents.ConsumerSettings.{ConsumerSettings}
use Rattle.sqs_model.specs.declared.agents.Forwarding.{Forwarding}
use Rattle.sqs_model.specs.declared.agents.Groups.{Groups}
use Rattle.sqs_model.specs.declared.agents.Groups.TheVariants.{ByWeight, InTurn}
use Rattle.sqs_model.specs.declared.agents.Outage.{Outage}
use Rattle.sqs_model.specs.declared.agents.ProducerSettings.{ProducerSettings}
use Rattle.sqs_model.specs.declared.agents.Quantile.{Quantile}
use Rattle.sqs_model.specs.declared.agents.Distribution.{Distribution}
use Rattle.sqs_model.specs.declared.agents.Distribution.TheVariants.{Quantiles, Uniform}
use Rattle.sqs_model.specs.declared.agents.ScalerSettings.{ScalerSettings}
use Rattle.sqs_model.specs.declared.agents.Scaling.{Scaling}
use Rattle.sqs_model.specs.declared.agents.Serving.{Serving}
use Rattle.sqs_model.specs.declared.agents.Serving.TheVariants.{Each, Once}
use Rattle.sqs_model.specs.declared.agents.Target.{Target}
use Rattle.sqs_model.specs.declared.agents.Target.TheVariants.{PerCopy, Steps}
use Rattle.sqs_model.specs.declared.agents.WeightedGroup.{WeightedGroup}
use Rattle.sqs_redrive.specs.declared.settings.Kind.{Kind}
use Rattle.sqs_redrive.specs.declared.settings.Kind.TheVariants.{Fifo, Standard}
use Rattle.sqs_redrive.specs.declared.settings.Latency.{Latency}
use Rattle.sqs_redrive.specs.declared.settings.Policy.{Policy}
use Rattle.sqs_redrive.specs.declared.settings.QueueSettings.{QueueSettings}
use Rattle.sqs_redrive.specs.declared.settings.TaskSettings.{TaskSettings}
use Rattle.sqs_redrive.specs.Received.{most_received}
use Rattle.sqs_model.specs.Longest.{longest_delay, longest_timeout}

-- whether a number is from the one to the other
abbrev pub Between : ℕ → ℕ → ℕ → Type 0
Between low high n = (low ≤ n) × (n ≤ high)

-- a latency of 1 ms to 15 minutes
pub record IsLatency (l : Latency) : Type 0 where
  pub least : 1 ≤ l.least
  pub ordered : l.least ≤ l.greatest
  pub greatest : l.greatest ≤ 900000

-- a policy after 1 to 1,000 receives
pub record IsPolicy (p : Policy) : Type 0 where
  pub receives : Between 1 1000 p.max_receives
  pub latency : IsLatency p.latency

-- a policy, if there is one
abbrev pub MayBePolicy : Option Policy → Type 0
MayBePolicy None = Unit {0}
MayBePolicy (Some p) = IsPolicy p

-- 1 to 16 hosts, of which 1 to all are sampled
abbrev pub IsKind : Kind → Type 0
IsKind (Standard hosts sampled) = Between 1 16 hosts × Between 1 hosts sampled
IsKind (Fifo content_dedup scope) = Unit {0}

-- whether a queue is a standard one
abbrev pub IsStandard : Kind → Type 0
IsStandard (Standard hosts sampled) = Unit {0}
IsStandard (Fifo content_dedup scope) = ⊥

-- whether a queue is a FIFO one
abbrev pub IsFifo : Kind → Type 0
IsFifo (Standard hosts sampled) = ⊥
IsFifo (Fifo content_dedup scope) = Unit {0}

-- a queue: a visibility timeout of at most 12 hours, a delay of at most 15 minutes, a retention period of 1 minute to
-- 14 days, 1 to 120,000 messages in flight
pub record IsQueueSettings (s : QueueSettings) : Type 0 where
  pub kind : IsKind s.kind
  pub visibility : s.visibility ≤ 1000 * longest_timeout
  pub delay : s.delay ≤ 1000 * longest_delay
  pub retention : Between 60000 1209600000 s.retention
  pub limit : Between 1 most_received s.in_flight_limit
  pub policy : MayBePolicy s.policy

-- a quantile after another one: its permille is greater, its time no less
abbrev pub Follows : Quantile → Quantile → Type 0
Follows p q = (p.permille < q.permille) × (p.time ≤ q.time)

-- whether each quantile follows the one before
abbrev pub AreAscending : Quantile → List Quantile → Type 0
AreAscending p [] = Unit {0}
AreAscending p (q ∷ qs) = Follows p q × AreAscending q qs

-- whether quantiles ascend
abbrev pub AscendsAll : List Quantile → Type 0
AscendsAll [] = Unit {0}
AscendsAll (q ∷ qs) = AreAscending q qs

-- 2 to 32 quantiles of 1 ms to a day, from 0 to 1,000 in a thousand
pub record AreQuantiles (qs : List Quantile) : Type 0 where
  pub count : Between 2 32 (length qs)
  pub times : All (λ q. Between 1 86400000 q.time) qs
  pub permilles : All (λ q. q.permille ≤ 1000) qs
  pub ascending : AscendsAll qs

-- a distribution of times of 1 ms to a day
abbrev pub IsDistribution : Distribution → Type 0
IsDistribution (Uniform low high) = (1 ≤ low) × (low ≤ high) × (high ≤ 86400000)
IsDistribution (Quantiles quantiles) = AreQuantiles quantiles

-- a time within the longest run, if there is one
abbrev pub MayBeMoment : Option ℕ → Type 0
MayBeMoment None = Unit {0}
MayBeMoment (Some at) = at ≤ 2592000000

-- 1 to 100 groups of 1 to 128 bytes, each of a weight from 1 to 1,000,000
pub record AreWeighted (gs : List WeightedGroup) : Type 0 where
  pub count : Between 1 100 (length gs)
  pub groups : All (λ g. Between 1 128 (length g.group)) gs
  pub weights : All (λ g. Between 1 1000000 g.weight) gs

-- 1 to 1,000 groups in turn, or groups by weight
abbrev pub AreGroups : Groups → Type 0
AreGroups (InTurn groups) = Between 1 1000 groups
AreGroups (ByWeight groups) = AreWeighted groups

-- groups, if there are any
abbrev pub MayBeGroups : Option Groups → Type 0
MayBeGroups None = Unit {0}
MayBeGroups (Some groups) = AreGroups groups

-- a producer of 1 to 1,000,000 messages
pub record IsProducer (p : ProducerSettings) : Type 0 where
  pub count : Between 1 1000000 p.count
  pub start : p.start ≤ 2592000000
  pub gap : IsDistribution p.gap
  pub groups : MayBeGroups p.groups
  pub stop : MayBeMoment p.stop

-- a forward to 1 to 10 queues
pub record IsForwarding (f : Forwarding) : Type 0 where
  pub count : Between 1 10 (length f.to)
  pub latency : IsLatency f.latency

-- a forward, if there is one
abbrev pub MayBeForward : Option Forwarding → Type 0
MayBeForward None = Unit {0}
MayBeForward (Some f) = IsForwarding f

-- a timeout in seconds, if there is one
abbrev pub MayBeTimeout : Option ℕ → Type 0
MayBeTimeout None = Unit {0}
MayBeTimeout (Some s) = s ≤ longest_timeout

-- a heartbeat of 1 second to 12 hours, if there is one
abbrev pub MayBeHeartbeat : Option ℕ → Type 0
MayBeHeartbeat None = Unit {0}
MayBeHeartbeat (Some every) = Between 1000 (1000 * longest_timeout) every

-- services of one message each, or of a receive with at most a day for each message
abbrev pub IsServing : Serving → Type 0
IsServing Each = Unit {0}
IsServing (Once each) = each ≤ 86400000

-- a time of failed services of at most 12 hours, if they have one
abbrev pub MayBeFailService : Option ℕ → Type 0
MayBeFailService None = Unit {0}
MayBeFailService (Some time) = time ≤ 43200000

-- an outage that ends within 30 days, in which 0 to 1,000 services in a thousand fail
pub record IsOutage (o : Outage) : Type 0 where
  pub ordered : o.stretch.from ≤ o.stretch.to
  pub ends : o.stretch.to ≤ 2592000000
  pub failures : o.permille ≤ 1000

-- a copy that starts within a day, if there is a scaler
abbrev pub MayBeScaling : Option Scaling → Type 0
MayBeScaling None = Unit {0}
MayBeScaling (Some s) = s.start ≤ 86400000

-- a copy for each 1 to 1,000,000 visible messages; steps may be any
abbrev pub IsTarget : Target → Type 0
IsTarget (PerCopy messages) = Between 1 1000000 messages
IsTarget (Steps steps) = Unit {0}

-- a scaler that reads every second to every day, and decides by a number that is younger than that; it wants as many
-- copies as its target says, from its least to its most, which are at most 1,000
pub record IsScaler (s : ScalerSettings) : Type 0 where
  pub start : s.start ≤ 2592000000
  pub every : Between 1000 86400000 s.every
  pub reading : s.reading < s.every
  pub target : IsTarget s.target
  pub ordered : s.least ≤ s.most
  pub most : s.most ≤ 1000
  pub most_added : Between 1 1000 s.most_added
  pub most_taken : Between 1 1000 s.most_taken
  pub cooldown_out : s.cooldown_out ≤ 86400000
  pub cooldown_in : s.cooldown_in ≤ 86400000

-- a consumer that asks for 1 to 10 messages and waits for at most 20 seconds
pub record IsConsumer (c : ConsumerSettings) : Type 0 where
  pub start : c.start ≤ 2592000000
  pub batch : Between 1 10 c.batch
  pub gather : c.gather ≤ 300000
  pub wait : c.wait ≤ 20
  pub timeout : MayBeTimeout c.timeout
  pub service : IsDistribution c.service
  pub serving : IsServing c.serving
  pub fail_service : MayBeFailService c.fail_service
  pub failures : c.fail_permille ≤ 1000
  pub idle : Between 1 86400000 c.idle
  pub forward : MayBeForward c.forward
  pub stop : MayBeMoment c.stop
  pub scaling : MayBeScaling c.scaling
  pub outages : All IsOutage c.outages
  pub backoff : All (λ s. s ≤ longest_timeout) c.backoff
  pub heartbeat : MayBeHeartbeat c.heartbeat

-- a move task of 1 to 500 messages a second
pub record IsTaskSettings (t : TaskSettings) : Type 0 where
  pub per_second : Between 1 500 t.per_second
  pub latency : IsLatency t.latency
