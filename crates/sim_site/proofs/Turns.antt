-- Turns of an actor, one after another.
use Rattle.sqs_model.specs.Limits.{PassesCount}
use Rattle.std.specs.Prelude.{Ok, Result}
use Rattle.sim_clock.specs.declared.refusal.Refusal.{Refusal}
use Rattle.std.proofs.Common.{◌≡◌, ℕ, suc, Option, Some, None, refl, ap, subst, sym, ◌∙◌}
use Rattle.sim_clock.specs.declared.key.Key.{Key}
use Rattle.sqs_model.specs.declared.acts.Act.{Act}
use Rattle.sqs_model.specs.declared.acts.Act.TheVariants as acts
use Rattle.sqs_model.specs.declared.acts.Answer.{Answer}
use Rattle.sqs_model.specs.Actor.{Actor, next}
use Rattle.sqs_model.specs.Acts.{act_made}
use Rattle.sqs_model.specs.Polls.{acts_found, acts_most, acts_next}
use Rattle.sqs_model.specs.Site.{Core, Effect, actor_numbered, and_then}
use Rattle.sim_site.specs.Effects.{Did, Does, GoesOn}
use Rattle.sim_site.specs.Turns.{DidTurn, Turn, turn_next, turn_of}
use Rattle.sqs_model.proofs.Growth.{Grows, most_up, same}
use Rattle.sim_site.specs.declared.handling.Handling.{Handling}
use Rattle.sim_site.proofs.Passing.{passes_before}
use Rattle.sim_site.proofs.Carried.{did_nothing}
use Rattle.sim_site.proofs.Going.{does_then, stays}

-- what comes of a turn, and of what its actor is told of it
followed_by : (Answer → Core → Effect) → Effect → Option Answer → Effect
followed_by more e None = e
followed_by more e (Some answer) = and_then e (more answer)

next_follows : (more : Answer → Core → Effect) (key : Key) (c : Core) (act : Act) (a : Actor) → acts_next more key c (act, a) ≡ followed_by more (turn_next key c (act, a)).effect (turn_next key c (act, a)).answer
unfolding followed_by act_made
next_follows more key c acts.Nothing a = refl
next_follows more key c act a = refl

found_follows : (more : Answer → Core → Effect) (key : Key) (answer : Answer) (c : Core) (o : Option Actor) → acts_found more key answer c o ≡ followed_by more (turn_of key answer c o).effect (turn_of key answer c o).answer
unfolding followed_by
found_follows more key answer c None = refl
found_follows more key answer c (Some a) = next_follows more key c (next a key.at answer).0 (next a key.at answer).1

-- a turn that a handling went on by, and the answer that its actor gets
abbrev Took : Handling → Handling → Answer → Core → Core → Option Answer → Type 0
Took a b answer c d told = GoesOn a b × DidTurn a.effects.now b.effects.now d told (turn_of a.key answer c (actor_numbered a.agent c))

module _ (a b : Handling) (most : ℕ) (answer : Answer) (c d : Core) (told : Option Answer) (took : Took a b answer c d told) where
  took_follows : (x : Option Answer) → told ≡ x → acts_most (suc most) a.key a.agent answer c ≡ followed_by (acts_most most a.key a.agent) (turn_of a.key answer c (actor_numbered a.agent c)).effect x
  took_follows x is =
      let turn : Turn = turn_of a.key answer c (actor_numbered a.agent c) in
      found_follows (acts_most most a.key a.agent) a.key answer c (actor_numbered a.agent c) ∙ ap (followed_by (acts_most most a.key a.agent) turn.effect) (sym took.1.answer ∙ is)

  -- the turn of an actor that is told nothing of it is its last
  pub turn_ends : told ≡ None → GoesOn a b × Did a.effects.now b.effects.now d (acts_most (suc most) a.key a.agent answer c)
  unfolding followed_by
  turn_ends is = (took.0, rw (took_follows None is) took.1.effect)

  -- after any other turn its actor gets an answer
  pub turn_goes :
      {A : Type 0} (r : Result A Refusal) (end : Handling) (w : Answer) (f : Core) → told ≡ Some w → Does r b end f (acts_most most b.key b.agent w d) → Does r a end f (acts_most (suc most) a.key a.agent answer c)
  unfolding followed_by
  turn_goes r end w f is more =
      rw (took_follows (Some w) is) (does_then r a b end d f (turn_of a.key answer c (actor_numbered a.agent c)).effect (λ k n x. acts_most most k n w x) (took.0, took.1.effect) more)

-- the last of the turns that are taken at most
pub turn_last :
    (a b : Handling) (answer : Answer) (c d : Core) (told : Option Answer) → Took a b answer c d told
    → GoesOn a b × Did a.effects.now b.effects.now d (acts_most 1 a.key a.agent answer c)
turn_last a b answer c d None p = turn_ends a b 0 answer c d None p refl
turn_last a b answer c d (Some told) p = turn_goes a b 0 answer c d (Some told) p (Ok (tt {0})) b told d refl (stays b, did_nothing b.effects.now d)

-- an effect, and what comes of it
followed_limited : (more : Answer → Core → Effect) → ((w : Answer) (d : Core) → Grows d (more w d).core) → (e : Effect) (o : Option Answer) → PassesCount e → PassesCount (followed_by more e o)
unfolding followed_by
followed_limited more up e None h = h
followed_limited more up e (Some w) h = passes_before e (more w) (up w e.core) h

module _ (key : Key) (n most : ℕ) (answer : Answer) (c : Core) where
  -- a turn that a count stops
  pub turn_limited : PassesCount (turn_of key answer c (actor_numbered n c)).effect → PassesCount (acts_most (suc most) key n answer c)
  turn_limited h =
      let t : Turn = turn_of key answer c (actor_numbered n c) in
      let more : Answer → Core → Effect = acts_most most key n in
      subst PassesCount (sym (found_follows more key answer c (actor_numbered n c)))
      (followed_limited more (λ w d. most_up d most key n w d (same d)) t.effect t.answer h)
