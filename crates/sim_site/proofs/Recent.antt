-- No deduplication entry is from after now, whatever is done now.
use Rattle.std.proofs.Common.{◌≡◌, ℕ, arith, refl, true, ◌∷◌, [], Option, None, Some, subst, sym}
use Rattle.std.specs.Prelude.{Bool, List, Result}
use Rattle.sim_clock.specs.declared.key.Key.{Key}
use Rattle.sim_clock.specs.declared.refusal.Refusal.{Refusal}
use Rattle.sqs_redrive.specs.declared.answers.Got.{Got}
use Rattle.sqs_model.proofs.Kept.{act_recent, polls_recent, receive_recent}
use Rattle.sqs_model.specs.declared.acts.Act.{Act}
use Rattle.sqs_model.specs.declared.acts.Act.TheVariants as acts
use Rattle.sqs_model.specs.declared.acts.Answer.{Answer}
use Rattle.sqs_model.specs.Actor.{Actor, next}
use Rattle.sqs_model.specs.Acts.{Made, act_made}
use Rattle.sqs_model.specs.Polls.{can_give, poll_answered, poll_given}
use Rattle.sqs_model.specs.Progress.{IsRecent}
use Rattle.sqs_model.specs.Queue.{Queue}
use Rattle.sqs_model.specs.Receive.{receive}
use Rattle.sqs_model.specs.Site.{Core, Effect, Poll, actor_numbered, with_actor}
use Rattle.sim_site.specs.Effects.{Did, GoesOn}
use Rattle.sim_site.specs.declared.handling.Handling.{Handling}
use Rattle.sim_site.specs.Turns.{DidTurn, turn_by, turn_next, turn_of}
use Rattle.sim_site.proofs.Polling.{polls_go}

-- a site after an effect by which a handling went on
pub goes_recent : (a b : Handling) (c : Core) (e : Effect) → GoesOn a b × Did a.effects.now b.effects.now c e → IsRecent a.key.at e.core.queue → IsRecent b.key.at c.queue
goes_recent a b c e p h =
    subst (λ (k : Key). IsRecent k.at c.queue) (sym p.0.key) (subst (λ (x : Core). IsRecent a.key.at x.queue) (sym p.1.core) h)

-- a queue after a receive
pub received_recent :
    (q new : Queue) (now max : ℕ) (timeout : Option ℕ) (set : ℕ) (short : Bool) (answer : Result (List Got) Refusal) → receive q now max timeout set short ≡ (answer, new)
    → IsRecent now q → IsRecent now new
received_recent q new now max timeout set short answer e h =
    subst (λ (x : Result (List Got) Refusal × Queue). IsRecent now x.1) e (receive_recent q now max timeout set short h)

-- a site after a turn of an actor
pub turn_by_made : (act : Act) (m : Made) → (turn_by act m).effect ≡ m.effect
turn_by_made acts.Nothing m = refl
turn_by_made act m = refl

next_recent : (key : Key) (c : Core) (act : Act) (a : Actor) → IsRecent key.at c.queue → IsRecent key.at (turn_next key c (act, a)).effect.core.queue
next_recent key c act a h =
    subst (λ (e : Effect). IsRecent key.at e.core.queue) (sym (turn_by_made act (act_made key a (with_actor c a) act))) (act_recent key a (with_actor c a) act h)

pub turn_recent : (key : Key) (answer : Answer) (c : Core) (o : Option Actor) → IsRecent key.at c.queue → IsRecent key.at (turn_of key answer c o).effect.core.queue
turn_recent key answer c None h = h
turn_recent key answer c (Some a) h = next_recent key c (next a key.at answer).0 (next a key.at answer).1 h

-- a site after a turn of the actor that acts
pub taken_recent :
    (a b : Handling) (answer : Answer) (c d : Core) (told : Option Answer)
    → GoesOn a b × DidTurn a.effects.now b.effects.now d told (turn_of a.key answer c (actor_numbered a.agent c)) → IsRecent a.key.at c.queue → IsRecent b.key.at d.queue
taken_recent a b answer c d told p h =
    goes_recent a b d (turn_of a.key answer c (actor_numbered a.agent c)).effect (p.0, p.1.effect) (turn_recent a.key answer c (actor_numbered a.agent c) h)

-- a site after the answer to one poll
pub poll_recent : (key : Key) (p : Poll) (c : Core) → can_give c.queue ≡ true → IsRecent key.at c.queue → IsRecent key.at (poll_answered key p c (poll_given key p c.queue)).core.queue
poll_recent key p c gives h =
    subst (λ (e : Effect). IsRecent key.at e.core.queue) (polls_go key c (p ∷ []) 0 p (omega arith) refl gives) (polls_recent key (p ∷ []) c h)
