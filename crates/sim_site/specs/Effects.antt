-- How the methods of a site carry out the effects of the definitions: rows and transfers are appended to those made
-- before.
use Rattle.std.specs.Prelude.{IfErr, IfOk, List, MatchResult, OnOk, Result, Some, ◌++◌, ◌≡◌, ◌≢◌, ◌≤◌, Option, map, ℕ}
use Rattle.sim_clock.specs.declared.key.Key.{Key}
use Rattle.sim_clock.specs.declared.refusal.Refusal.{Refusal}
use Rattle.sim_clock.specs.declared.refusal.Refusal.TheVariants as refusals
use Rattle.sim_engine.specs.declared.effects.Effects.{Effects as EffectsOf}
use Rattle.sim_engine.specs.Limits.{StopsWhere}
use Rattle.sqs_message.specs.declared.row.Row.{Row}
use Rattle.sqs_redrive.specs.declared.transfers.Outbound.{Outbound}
use Rattle.sqs_model.specs.declared.acts.Answer.{Answer}
use Rattle.sqs_model.specs.Actor.{Actor}
use Rattle.sqs_model.specs.Acts.{Made, act_made, got_row, given}
use Rattle.sqs_model.specs.Limits.{PassesCount, effect_of, rows_count}
use Rattle.sqs_model.specs.Site.{Core, Effect, Site, actor_numbered, number_of}
use Rattle.sqs_model.specs.Step.{Handled, handled, with_polls}
use Rattle.sim_actor.specs.declared.replies.Reply.{Reply}
use Rattle.sim_actor.specs.Lives.{answer_of}
use Rattle.sim_site.specs.declared.handling.Handling.{Handling}
use Rattle.sqs_model.specs.declared.acts.Act.{Act}
use Rattle.sqs_redrive.specs.declared.answers.Got.{Got}

-- rows of the log made and transfers to other queues sent so far
abbrev pub Effects : Type 0
Effects = EffectsOf Row Outbound

-- a site after an effect, whose rows and transfers were added
pub record Did (before after : Effects) (c : Core) (e : Effect) : Type 0 where
  pub core : c ≡ e.core
  pub rows : after.rows.items ≡ before.rows.items ++ e.rows
  pub sent : after.sent.items ≡ before.sent.items ++ e.sent

-- a site after a handling, whose rows and transfers were added
pub record DidHandle (before after : Effects) (s : Site) (h : Handled) : Type 0 where
  pub site : s ≡ h.site
  pub rows : after.rows.items ≡ before.rows.items ++ h.rows
  pub sent : after.sent.items ≡ before.sent.items ++ h.sent

-- a site after an act, with the answer that its actor gets
pub record DidMake (before after : Effects) (c : Core) (told : Answer) (m : Made) : Type 0 where
  pub effect : Did before after c m.effect
  pub answer : told ≡ m.answer

-- of an effect some is done, and the rest is what would come at the site as it is
pub record Remains (before after : Effects) (rest whole : Effect) : Type 0 where
  pub core : rest.core ≡ whole.core
  pub rows : after.rows.items ++ rest.rows ≡ before.rows.items ++ whole.rows
  pub sent : after.sent.items ++ rest.sent ≡ before.sent.items ++ whole.sent
  pub told : rows_count rest.rows ≤ rows_count whole.rows

-- why an effect is not carried out: out of memory, or a count that it takes past the limit
abbrev pub Stops : Effect → Refusal → Type 0
Stops e = StopsWhere (PassesCount e)

-- a handling that went on: what is handled, who acts and the list of effects are the same
pub record GoesOn (before after : Handling) : Type 0 where
  pub key : after.key ≡ before.key
  pub agent : after.agent ≡ before.agent
  pub effects : after.effects.ghost_name ≡ before.effects.ghost_name

-- rows that a handling made were added
abbrev pub AddsRows : Handling → Handling → List Row → Type 0
AddsRows before after rows = after.effects.now.rows.items ≡ before.effects.now.rows.items ++ rows

-- how a call ends: the handling went on by an effect at the site, or the effect is not carried out
abbrev pub Does : {A : Type 0} → Result A Refusal → Handling → Handling → Core → Effect → Type 0
Does result before after c e =
    MatchResult result (λ _. GoesOn before after × Did before.effects.now after.effects.now c e) (Stops e)

-- the same of an effect that depends on the key that is handled
abbrev pub Handles : {A : Type 0} → Result A Refusal → Handling → Handling → Core → (Key → Effect) → Type 0
Handles result before after c e = Does result before after c (e before.key)

-- with the answers to waiting polls after it
abbrev pub HandlesAndAnswers : {A : Type 0} → Result A Refusal → Handling → Handling → Core → (Key → Effect) → Type 0
HandlesAndAnswers result before after c e = Handles result before after c (λ k. with_polls k (e k))

-- of an effect that depends on the key and on who acts
abbrev pub ActorDoes : {A : Type 0} → Result A Refusal → Handling → Handling → Core → (Key → Actor → Made) → Type 0
ActorDoes result before after c m = (a : Actor) → a.number ≡ before.agent → Does result before after c (m before.key a).effect

-- the same of an act of the actor that acts, which gets no other answer than that it is done
abbrev pub DoesAct : {A : Type 0} → Result A Refusal → Handling → Handling → Core → Core → Act → Type 0
DoesAct result before after old new act = ActorDoes result before after new (λ k a. act_made k a old act)

-- how an act ends: the handling went on by it, and the actor gets its answer, or it is not carried out
abbrev pub HasMade : Result Reply Refusal → Handling → Handling → Core → Made → Type 0
HasMade result before after c m =
    MatchResult result (λ reply. GoesOn before after × DidMake before.effects.now after.effects.now c (answer_of reply) m) (Stops m.effect)

-- the same of an act of one of the site's actors
abbrev pub Makes : Result Reply Refusal → Handling → Handling → Core → Core → (Key → Actor → Core → Made) → Type 0
Makes result before after old new m =
    (a : Actor) → a.number ≡ before.agent → actor_numbered before.agent old ≡ Some a → HasMade result before after new (m before.key a old)

-- and of an act by what it is
abbrev pub MakesAct : Result Reply Refusal → Handling → Handling → Core → Core → Act → Type 0
MakesAct result before after old new act = Makes result before after old new (λ k a c. act_made k a c act)

-- how the handling of a site's next entry ends
abbrev pub HasHandled : {A : Type 0} → Result A Refusal → Handling → Handling → Site → Handled → Type 0
HasHandled result before after s h =
    MatchResult result (λ _. GoesOn before after × DidHandle before.effects.now after.effects.now s h) (Stops (effect_of h))

-- the same by what is handled, of a site before and after
abbrev pub DoesDue : {A : Type 0} → Result A Refusal → Handling → Handling → Site → Site → Type 0
DoesDue result before after old new = HasHandled result before after new (handled before.key old)

-- a site with these on their way to it
abbrev pub site_of : Core → List Outbound → Site
site_of core arriving = record { core = core; arriving = arriving }

-- what comes of an error: an answer, or the end of the site, which is out of memory or a count at its limit
pub record IsReportedOrEnds (refusal : Refusal) (result : Result Refusal Refusal) : Type 0 where
  pub same : IfOk result (λ told. told ≡ refusal)
  pub memory : OnOk result (refusal ≢ refusals.Memory)
  pub limit : OnOk result (refusal ≢ refusals.CountLimit)
  pub ends : IfErr result (λ ends. ends ≡ refusal)
  pub stops : IfErr result (StopsWhere (refusal ≡ refusals.CountLimit))

-- the rows of messages that a receive gave were added
abbrev pub AddsGots : Handling → Handling → Core → List Got → Type 0
AddsGots before after c gots = AddsRows before after (map (got_row before.key c before.agent) gots)

-- how a receive that gave messages ends, once they left the queue
abbrev pub GivesGots : {A : Type 0} → Result A Refusal → Handling → Handling → Core → Core → Option ℕ → List Got → Type 0
GivesGots result before after old new timeout gots =
    Does result before after new (given before.key old before.agent timeout (old.queue, gots))

-- the row that the actor of a handling makes by a call at a site
abbrev pub IsRowOfCall : Handling → ℕ → Row → (Key → Actor → Core → Row) → Type 0
IsRowOfCall handling site row made =
    (a : Actor) (c : Core) → a.number ≡ handling.agent → number_of c ≡ site → row ≡ made handling.key a c
