-- What an actor always keeps, and how a decision that may return an error agrees with the definitions.
use Rattle.std.specs.Prelude.{Err, List, None, Ok, Option, Result, Some, [], length, max, ℕ, ◌<◌, ◌≡◌, ◌≤◌, ◌∷◌, Bool, ◌+◌}
use Rattle.sim_actor.specs.declared.life.LastAct.{LastAct as OwnStage}
use Rattle.sim_actor.specs.declared.life.LastAct.TheVariants as own
use Rattle.sim_actor.specs.declared.replies.FollowUp.{FollowUp}
use Rattle.sim_actor.specs.declared.replies.FollowUp.TheVariants as follow_ups
use Rattle.sim_actor.specs.declared.replies.Reply.{Reply}
use Rattle.sim_actor.specs.declared.replies.Reply.TheVariants as replies
use Rattle.sim_clock.specs.declared.refusal.Refusal.{Refusal}
use Rattle.sim_clock.specs.declared.refusal.Refusal.TheVariants as refusals
use Rattle.sqs_message.specs.declared.calls.ScriptCall.{ScriptCall}
use Rattle.sqs_message.specs.Ids.{receipt_text}
use Rattle.sqs_message.specs.declared.ids.MessageId.{MessageId}
use Rattle.sqs_message.specs.declared.ids.Receipt.{Receipt}
use Rattle.sqs_model.specs.declared.acts.Act.{Act}
use Rattle.sqs_model.specs.declared.acts.Act.TheVariants as acts
use Rattle.sqs_model.specs.declared.acts.Answer.{Answer}
use Rattle.sqs_model.specs.declared.acts.Answer.TheVariants as told_by
use Rattle.sqs_model.specs.declared.agents.ActorSettings.{ActorSettings}
use Rattle.sqs_model.specs.declared.agents.Role.{Role}
use Rattle.sqs_model.specs.declared.agents.Role.TheVariants.{Consumer, Producer, Scaler, Script}
use Rattle.sqs_model.specs.declared.agents.Scaling.{Scaling}
use Rattle.sqs_model.specs.declared.agents.Serving.{Serving}
use Rattle.sqs_model.specs.Actor.{Actor, Asked, Beat, Decided, Ended, Failed, Gathered, Parked, Read, Served, LastAct, act_of, begins, begins_decided, begins_first, drawn_failure, ends_by, ends_service, ends_well, ends_whole, first_at, forward_of, forwards, has_forwarded, looks_again, next_beat, outcome, sent_one, service_of, wakes_after, woken}
use Rattle.sqs_model.specs.Answers.{most_count}
use Rattle.sqs_model.specs.Draw.{Draws, drawn_latency, drawn_time}
use Rattle.sqs_model.specs.Valid.{IsConsumer, IsProducer, IsScaler}
use Rattle.sqs_redrive.specs.declared.answers.Got.{Got}
use Rattle.sqs_model.specs.declared.agents.ConsumerSettings.{ConsumerSettings}
use Rattle.sqs_model.specs.declared.agents.Distribution.{Distribution}
use Rattle.sqs_model.specs.declared.agents.Forwarding.{Forwarding}
use Rattle.sqs_redrive.specs.declared.settings.Latency.{Latency}
use Rattle.sqs_redrive.specs.declared.transfers.Load.{Load}
use Rattle.sqs_redrive.specs.declared.transfers.Load.TheVariants as loads
use Rattle.sqs_redrive.specs.declared.transfers.Outbound.{Outbound}

-- a role whose settings are in range; a script has at most 100,000 calls
abbrev pub IsRole : Role → Type 0
IsRole (Script script) = length script ≤ 100000
IsRole (Producer p) = IsProducer p
IsRole (Consumer c) = IsConsumer c
IsRole (Scaler s) = IsScaler s

-- the definitions' word for what a consumer did last
abbrev pub last_act_of : OwnStage → LastAct
last_act_of own.Asked = Asked
last_act_of own.Gathered = Gathered
last_act_of (own.Served receipt) = Served receipt
last_act_of own.Ended = Ended
last_act_of own.Failed = Failed
last_act_of own.Beat = Beat
last_act_of own.Parked = Parked
last_act_of (own.Decided copies changed) = Decided copies changed
last_act_of (own.Read copies changed visible) = Read copies changed visible

-- an actor without its settings
pub record Life : Type 0 where
  pub number : ℕ
  pub held : List Got
  pub done : List Got
  pub failed : List Got
  pub ends : ℕ
  pub will_fail : Bool
  pub last_act : LastAct
  pub wake : Option ℕ
  pub wakes : ℕ
  pub polls : ℕ
  pub sent : ℕ
  pub draws : Draws

-- the actor with these settings and this life
abbrev pub lived : ActorSettings → Life → Actor
lived settings l =
    record {
      number = l.number;
      settings = settings;
      held = l.held;
      done = l.done;
      failed = l.failed;
      ends = l.ends;
      will_fail = l.will_fail;
      last_act = l.last_act;
      wake = l.wake;
      wakes = l.wakes;
      polls = l.polls;
      sent = l.sent;
      draws = l.draws;
    }

-- the greatest of the counts that a decision may move: wakes, transfers and words
abbrev pub greatest_count : Actor → ℕ
greatest_count a = max a.wakes (max a.sent a.draws.taken)

-- what no decision changes, even if it returns an error
pub record IsFramed (old new : Actor) : Type 0 where
  pub number : new.number ≡ old.number
  pub settings : new.settings ≡ old.settings

-- an act and the actor after it are the definition's; a count at its limit is returned only if the definition would
-- count past it, and out of memory only if it would not
abbrev pub Decides : Result Act Refusal → Actor → Act × Actor → Type 0
Decides (Ok act) new model = model ≡ (act, new)
Decides (Err refusals.CountLimit) new model = most_count < greatest_count model.1
Decides (Err refusals.Memory) new model = greatest_count model.1 ≤ most_count
Decides (Err e) new model = ⊥

-- the act of a scaler that changes how many copies ask, or not
abbrev pub act_scaling : Option (ℕ × ℕ) → Act
act_scaling None = acts.Nothing
act_scaling (Some (from, to)) = acts.Scale from to

-- the same of a scaler, by the two numbers of a change; memory does not run out
abbrev pub Rescales : Result (Option (ℕ × ℕ)) Refusal → Actor → Act × Actor → Type 0
Rescales (Ok change) new model = model ≡ (act_scaling change, new)
Rescales (Err refusals.CountLimit) new model = most_count < greatest_count model.1
Rescales (Err e) new model = ⊥

-- the same if the definition returns only the actor
abbrev pub Becomes : Result (Unit {0}) Refusal → Actor → Actor → Type 0
Becomes (Ok u) new model = model ≡ new
Becomes (Err refusals.CountLimit) new model = most_count < greatest_count model
Becomes (Err e) new model = ⊥

-- the same of a decision after which the actor is as it was if memory runs out
abbrev pub Meets : Result Act Refusal → Actor → Actor → Act × Actor → Type 0
Meets (Ok act) old new model = model ≡ (act, new)
Meets (Err refusals.CountLimit) old new model = most_count < greatest_count model.1
Meets (Err refusals.Memory) old new model = (new ≡ old) × (greatest_count model.1 ≤ most_count)
Meets (Err e) old new model = ⊥

-- whether a service fails, and the draws after that, are the definition's
abbrev pub Drawn : Result Bool Refusal → Draws → Bool × Draws → Type 0
Drawn (Ok failed) new model = model ≡ (failed, new)
Drawn (Err refusals.CountLimit) new model = most_count < model.1.taken
Drawn (Err e) new model = ⊥

-- the definitions' word for a reply
abbrev pub answer_of : Reply → Answer
answer_of (replies.Got gots) = told_by.Got gots
answer_of replies.Waiting = told_by.Waiting
answer_of replies.Other = told_by.Other

-- the act that an actor does on a reply
abbrev pub act_following : FollowUp → Act
act_following follow_ups.Nothing = acts.Nothing
act_following (follow_ups.Delete receipt) = acts.Delete (receipt_text receipt)
act_following (follow_ups.Change receipt timeout) = acts.Change (receipt_text receipt) timeout

-- what an actor does on a reply and the actor after it are the definition's; nothing is said of it if memory runs out
abbrev pub FollowsUp : Result FollowUp Refusal → Actor → Act × Actor → Type 0
FollowsUp (Ok follow_up) new model = model ≡ (act_following follow_up, new)
FollowsUp (Err refusals.CountLimit) new model = most_count < greatest_count model.1
FollowsUp (Err refusals.Memory) new model = Unit {0}
FollowsUp (Err e) new model = ⊥

-- by the definition it does nothing, and the actor after it is the definition's; nothing is said of it if memory runs out
abbrev pub DoesNothing : Result (Unit {0}) Refusal → Actor → Act × Actor → Type 0
DoesNothing (Ok u) new model = model ≡ (acts.Nothing, new)
DoesNothing (Err refusals.CountLimit) new model = most_count < greatest_count model.1
DoesNothing (Err refusals.Memory) new model = Unit {0}
DoesNothing (Err e) new model = ⊥

-- the visibility timeout of a message with this receipt and the actor after it are the definition's
abbrev pub Changes : Receipt → Result ℕ Refusal → Actor → Act × Actor → Type 0
Changes receipt (Ok timeout) new model = model ≡ (acts.Change (receipt_text receipt) timeout, new)
Changes receipt (Err refusals.CountLimit) new model = most_count < greatest_count model.1
Changes receipt (Err e) new model = ⊥

-- the act that makes the first of some calls, and when the next is made
abbrev pub made_of : List ScriptCall → Option (Act × Option ℕ)
made_of [] = None
made_of (c ∷ cs) = Some (act_of c.call, first_at cs)

-- a decision of the actor with a life, at home there, whatever its other settings
abbrev pub DecidesAt : ℕ → Result Act Refusal → Life → Life → (Actor → Act × Actor) → Type 0
DecidesAt home result old new decision = (s : ActorSettings) → s.home ≡ home → Decides result (lived s new) (decision (lived s old))

-- the same of the end of the service of the first message held, by the actor with the others
abbrev pub EndsFirst : ℕ → Result Act Refusal → Life → Life → (Actor → Got → Act × Actor) → Type 0
EndsFirst home result old new decision =
    (s : ActorSettings) (g : Got) (gs : List Got) → s.home ≡ home → old.held ≡ g ∷ gs → Decides result (lived s new) (decision (record (lived s old) { held = gs }) g)

-- where that message has this id and this receipt
abbrev pub EndsThis : ℕ → MessageId → Receipt → Result Act Refusal → Life → Life → (Actor → Got → Act × Actor) → Type 0
EndsThis home id receipt result old new decision =
    (s : ActorSettings) (g : Got) (gs : List Got) → s.home ≡ home → old.held ≡ g ∷ gs → g.id ≡ id → g.receipt ≡ receipt
    → Decides result (lived s new) (decision (record (lived s old) { held = gs }) g)

-- what holds of the actor before and after, whatever its settings
abbrev pub Lived : Life → Life → (Actor → Actor → Type 0) → Type 0
Lived old new P = (s : ActorSettings) → P (lived s old) (lived s new)

-- a consumer that serves until the service ends, or until its heartbeat before that
abbrev pub in_service : ConsumerSettings → ℕ → Life → Life
in_service c now l = record l { wake = Some (max (now + 1) (next_beat c.heartbeat now l.ends)) }

-- a copy that wakes and is not to ask, and one that is to ask again
abbrev pub copy_parks : ℕ → Option ℕ → Actor → Actor
copy_parks now next a = record (woken a) { wake = looks_again now next; last_act = Parked }

abbrev pub copy_starts : Scaling → ℕ → Actor → Actor
copy_starts s now a = record (woken a) { wake = Some (max (now + 1) (now + s.start)); last_act = Asked }

-- how long a service of so many messages takes
abbrev pub drawn_service : ℕ → ConsumerSettings → Draws → ℕ × Draws
drawn_service messages c draws = service_of c.serving messages (drawn_time c.service draws)

-- a consumer that begins such a service
abbrev pub begins_service : ℕ → ConsumerSettings → ℕ → Actor → Actor
begins_service messages c now a = begins a c now (drawn_service messages c a.draws)

-- a consumer that begins a service of so much time, or of another if it is decided now that it fails
abbrev pub begins_or_fails : ℕ → ℕ → ConsumerSettings → ℕ → Actor → Actor
begins_or_fails time other c now a = begins_decided a c now time other (drawn_failure c now a.held a.draws)

-- a consumer that begins to serve what it holds
abbrev pub serves_batch : ConsumerSettings → ℕ → Actor → Act × Actor
serves_batch c now a = (acts.Nothing, begins_first (record a { last_act = Ended }) c now)

-- an actor that wakes after a time that is drawn
abbrev pub wakes_by : Distribution → ℕ → Actor → Actor
wakes_by d now a = wakes_after a now (drawn_time d a.draws)

-- the good end of the service of a consumer's message, with the others that it holds; they may end as a whole
abbrev pub ends_held : Bool → ConsumerSettings → ℕ → Actor → Got → Act × Actor
ends_held whole c now a g = ends_well whole a c now g a.held

-- the same of a receive that ends as a whole
abbrev pub ends_all : Serving → ConsumerSettings → ℕ → Actor → Got → Act × Actor
ends_all serving c now a g = ends_whole serving a c now g a.held

-- the end of its service, which failed or not
abbrev pub ends_as : Bool → ConsumerSettings → ℕ → Actor → Got → Act × Actor
ends_as failed c now a g = ends_service a c now g failed

-- the end of its service, which may fail
abbrev pub ends_or_fails : ConsumerSettings → ℕ → Actor → Got → Act × Actor
ends_or_fails c now a g = ends_by a c now g (outcome c.fail_service (record a { held = g ∷ a.held }) c now)

-- the end of the service of a message, wherever its actor is at home
abbrev pub EndsAnywhere : MessageId → Receipt → Act → Life → Life → (Actor → Got → Act × Actor) → Type 0
EndsAnywhere id receipt act old new decision = (home : ℕ) → EndsThis home id receipt (Ok act) old new decision

-- how a decision of the actor with a life agrees with the definition's, whatever its settings
abbrev pub Lives : {R : Type 0} → (R → Actor → Act × Actor → Type 0) → R → Life → Life → (Actor → Act × Actor) → Type 0
Lives agrees result old new decision = Lived old new (λ a b. agrees result b (decision a))

-- whether a life can count so many transfers more, and a word for each latency that varies
abbrev pub HasRoom : ℕ → Latency → Life → Type 0
HasRoom transfers l life = (life.sent + transfers ≤ most_count) × (l.least < l.greatest → life.draws.taken + transfers ≤ most_count)

-- what is sent of a message that is forwarded
abbrev pub load_of : Got → Load
load_of g = loads.Forward g.id g.group g.body

-- a transfer of a message to a queue by the actor with a life, at home there, is the definition's, whatever its settings
abbrev pub SendsOne : ℕ → ℕ → Load → ℕ → Latency → Outbound → Life → Life → Type 0
SendsOne home now load to l result old new =
    (s : ActorSettings) (g : Got) → s.home ≡ home → load_of g ≡ load
    → (forward_of (lived s old) now g to (drawn_latency l old.draws).0 ≡ result) × (sent_one l (lived s old) ≡ lived s new)

-- so are those to all queues to which it forwards
abbrev pub SendsAll : ℕ → ℕ → Got → Forwarding → List Outbound → Life → Life → Type 0
SendsAll home now g f sent old new =
    (s : ActorSettings) → s.home ≡ home
    → (forwards (lived s old) now g f.latency f.to ≡ sent) × (has_forwarded f.latency f.to (lived s old) ≡ lived s new)

-- the same where it may fail, as a decision may
abbrev pub Forwards : ℕ → ℕ → Got → Forwarding → Result (List Outbound) Refusal → Life → Life → Type 0
Forwards home now g f (Ok sent) old new = SendsAll home now g f sent old new
Forwards home now g f (Err refusals.CountLimit) old new = (s : ActorSettings) → most_count < greatest_count (has_forwarded f.latency f.to (lived s old))
Forwards home now g f (Err refusals.Memory) old new = (s : ActorSettings) → greatest_count (has_forwarded f.latency f.to (lived s old)) ≤ most_count
Forwards home now g f (Err e) old new = ⊥
