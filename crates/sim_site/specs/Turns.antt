-- One turn of an actor at its site: it gets an answer, decides, and acts.
use Rattle.std.specs.Prelude.{Bool, List, MatchResult, None, Option, Result, Some, false, find, true, ℕ, ◌+◌, ◌<◌, ◌≡◌}
use Rattle.sim_clock.specs.declared.refusal.Refusal.{Refusal}
use Rattle.sim_clock.specs.declared.key.Key.{Key}
use Rattle.sqs_model.specs.declared.acts.Act.{Act}
use Rattle.sqs_model.specs.declared.acts.Answer.{Answer}
use Rattle.sqs_model.specs.declared.acts.Act.TheVariants as acts
use Rattle.sqs_model.specs.declared.acts.Answer.TheVariants as told_by
use Rattle.sim_clock.specs.Firsts.{changed}
use Rattle.sqs_model.specs.Actor.{Actor, next}
use Rattle.sqs_model.specs.Acts.{Made, act_made}
use Rattle.sqs_model.specs.Site.{Core, Effect, actor_numbered, is_actor, no_effect, with_actor}
use Rattle.sqs_model.specs.Answers.{most_count}
use Rattle.sim_actor.specs.Lives.{greatest_count, act_following, answer_of}
use Rattle.sqs_model.specs.Dues.{core_dues}
use Rattle.sqs_model.specs.Progress.{IsRecent}
use Rattle.sim_site.specs.Due.{IsAmong}
use Rattle.sim_site.specs.Effects.{Did, Effects, GoesOn, Stops, Does}
use Rattle.sim_site.specs.declared.handling.Handling.{Handling}
use Rattle.sim_actor.specs.declared.replies.Reply.{Reply}
use Rattle.sim_actor.specs.declared.replies.FollowUp.{FollowUp}
use Rattle.sqs_model.specs.Polls.{acts_most}

-- the actor with a number decides on the answer that it gets, and takes its own place afterwards
pub record Turned (n now : ℕ) (told : Answer) (act : Act) (old new : List Actor) : Type 0 where
  pub before : Actor
  pub after : Actor
  pub found : find (is_actor n) old ≡ Some before
  pub decides : next before now told ≡ (act, after)
  pub number : after.number ≡ n
  pub list : new ≡ changed (is_actor n) (λ _. after) old
  pub there : find (is_actor n) new ≡ Some after

-- the actor of a number waits for one more poll than these
pub record Polled (n polls : ℕ) (old new : List Actor) : Type 0 where
  pub before : Actor
  pub found : find (is_actor n) old ≡ Some before
  pub count : before.polls ≡ polls
  pub list : new ≡ changed (is_actor n) (λ _. record before { polls = before.polls + 1 }) old

-- what a turn made, and the answer that the actor gets, if it did anything
pub record Turn : Type 0 where
  pub effect : Effect
  pub answer : Option Answer

-- the answer to an act that is no receive, if there was one
abbrev pub answer_if : Bool → Option Answer
answer_if true = Some told_by.Other
answer_if false = None

-- a turn by its act
abbrev pub turn_by : Act → Made → Turn
turn_by acts.Nothing m = record { effect = m.effect; answer = None }
turn_by act m = record { effect = m.effect; answer = Some m.answer }

-- a turn by what was decided
abbrev pub turn_next : Key → Core → Act × Actor → Turn
turn_next key c (act, a) = turn_by act (act_made key a (with_actor c a) act)

-- a turn of an actor, if it is there
abbrev pub turn_of : Key → Answer → Core → Option Actor → Turn
turn_of key answer c None = record { effect = no_effect c; answer = None }
turn_of key answer c (Some a) = turn_next key c (next a key.at answer)

-- a turn that was carried out
pub record DidTurn (before after : Effects) (c : Core) (told : Option Answer) (t : Turn) : Type 0 where
  pub effect : Did before after c t.effect
  pub answer : told ≡ t.answer

-- how a turn ends: the handling went on by it, and its result says what the actor is answered, or it is not carried out
abbrev pub Takes : {A : Type 0} → (A → Option Answer) → Result A Refusal → Handling → Handling → Core → Turn → Type 0
Takes answers result before after c t =
    MatchResult result (λ x. GoesOn before after × DidTurn before.effects.now after.effects.now c (answers x) t) (Stops t.effect)

-- the same of a turn by its act, of one of the site's actors
abbrev pub TakesAct : {A : Type 0} → (A → Option Answer) → Result A Refusal → Handling → Handling → Core → Core → Act → Type 0
TakesAct answers result before after old new act =
    (a : Actor) → a.number ≡ before.agent → actor_numbered before.agent old ≡ Some a
    → Takes answers result before after new (turn_by act (act_made before.key a old act))

-- the same of the next turn of the actor that acts, on an answer
abbrev pub TakesTurn : {A : Type 0} → (A → Option Answer) → Result A Refusal → Handling → Handling → Core → Core → Answer → Type 0
TakesTurn answers result before after old new answer = Takes answers result before after new (turn_of before.key answer old (actor_numbered before.agent old))

-- whether the turn of the actor with a number takes a count past the limit
abbrev pub PassesTurn : ℕ → ℕ → Answer → List Actor → Type 0
PassesTurn n now answer actors = (a : Actor) → find (is_actor n) actors ≡ Some a → most_count < greatest_count (next a now answer).1

-- whether the actor with a number has waited for as many polls as counts reach
abbrev pub HasAllPolls : ℕ → List Actor → Type 0
HasAllPolls n actors = (a : Actor) → find (is_actor n) actors ≡ Some a → a.polls ≡ most_count

-- a handling of what is due at a site, by the agent of its key; no message there is from after its moment
pub record IsDueNow (handling : Handling) (c : Core) : Type 0 where
  pub agent : handling.agent ≡ handling.key.agent
  pub recent : IsRecent handling.key.at c.queue
  pub due : IsAmong (core_dues c) handling.key

-- the actor with a number decides what it does on a reply
abbrev pub TurnedBy : ℕ → ℕ → Reply → List Actor → List Actor → FollowUp → Type 0
TurnedBy n now reply old new follow_up = Turned n now (answer_of reply) (act_following follow_up) old new

-- how a handling ends in which the actor that acts gets a reply, and acts so many times at most
abbrev pub ActsMost : {A : Type 0} → ℕ → Result A Refusal → Handling → Handling → Core → Core → Reply → Type 0
ActsMost most result before after old new reply = Does result before after new (acts_most most before.key before.agent (answer_of reply) old)
