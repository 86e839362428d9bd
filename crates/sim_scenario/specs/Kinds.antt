-- Of what kind the queues are that a scenario's agents name.
use Rattle.std.specs.List.{enumerate_from}
use Rattle.std.specs.Prelude.{All, Bool, Contains, None, Option, Some, false, get_or, map, true, ℕ, ◌≡◌, ◌≢◌}
use Rattle.sqs_model.specs.declared.agents.Forwarding.{Forwarding}
use Rattle.sqs_model.specs.declared.agents.Role.{Role}
use Rattle.sqs_model.specs.declared.agents.Role.TheVariants.{Consumer, Producer, Scaler, Script}
use Rattle.sqs_model.specs.Scenario.{Scenario}
use Rattle.sqs_redrive.specs.declared.settings.Kind.{Kind}
use Rattle.sqs_redrive.specs.declared.settings.Kind.TheVariants.{Fifo, Standard}
use Rattle.sqs_redrive.specs.declared.settings.Policy.{Policy}

-- whether a kind of queue is FIFO
abbrev pub is_fifo_kind : Kind → Bool
is_fifo_kind (Standard hosts sampled) = false
is_fifo_kind (Fifo content scope) = true

-- whether the queue of a number is FIFO
abbrev pub is_fifo_queue : Scenario → ℕ → Bool
is_fifo_queue s n = get_or (map (λ q. is_fifo_kind q.kind) s.queues) n false

-- two queues are both FIFO, or both standard
abbrev pub AreKin : Scenario → ℕ → ℕ → Type 0
AreKin s m n = is_fifo_queue s m ≡ is_fifo_queue s n

-- another queue than the home and of its kind, if one is named
abbrev pub MayBeOtherKin : Scenario → ℕ → Option ℕ → Type 0
MayBeOtherKin s home None = Unit {0}
MayBeOtherKin s home (Some n) = (n ≢ home) × AreKin s n home

-- the dead-letter queue of a policy, if there is one
abbrev pub dead_letter_of : Option Policy → Option ℕ
dead_letter_of None = None
dead_letter_of (Some p) = Some p.dead_letter

-- queues of the home's kind, if a consumer forwards at all
abbrev pub ForwardsToKin : Scenario → ℕ → Option Forwarding → Type 0
ForwardsToKin s home None = Unit {0}
ForwardsToKin s home (Some f) = All (λ to. AreKin s to home) f.to

-- the same of any actor
abbrev pub RoleNamesKin : Scenario → ℕ → Role → Type 0
RoleNamesKin s home (Script calls) = Unit {0}
RoleNamesKin s home (Producer p) = Unit {0}
RoleNamesKin s home (Consumer c) = ForwardsToKin s home c.forward
RoleNamesKin s home (Scaler z) = Unit {0}

-- messages stay among queues of one kind: the dead-letter queue of a queue and the queue to which a task moves are other
-- queues of the same kind, and each queue to which a consumer forwards is one of that kind
pub record NamesKin (s : Scenario) : Type 0 where
  pub policies : All (λ x. MayBeOtherKin s x.0 (dead_letter_of x.1.policy)) (enumerate_from 0 s.queues)
  pub forwards : All (λ a. RoleNamesKin s a.home a.role) s.actors
  pub tasks : All (λ t. MayBeOtherKin s t.home t.to) s.tasks

-- each move task takes from a queue that is the dead-letter queue of some queue
abbrev pub TasksDrain : Scenario → Type 0
TasksDrain s = All (λ t. Contains (map (λ q. dead_letter_of q.policy) s.queues) (Some t.home)) s.tasks
