use Rattle.std.proofs.Common.{Bool, Err, Some, ap, false, refl, rules, true, ℕ, ◌≡◌}
use Rattle.std.specs.Prelude.{None, Option}
use Rattle.sim_clock.specs.declared.refusal.Refusal.{Refusal}
use Rattle.sim_clock.specs.declared.refusal.Refusal.TheVariants as refusals
use Rattle.sqs_model.specs.declared.acts.Act.TheVariants.{Nothing}
use Rattle.sqs_model.specs.declared.acts.Standing.{Standing}
use Rattle.sqs_model.specs.declared.agents.ConsumerSettings.{ConsumerSettings}
use Rattle.sqs_model.specs.declared.agents.Scaling.{Scaling}
use Rattle.sqs_model.specs.Actor.{Actor, consumer_wake, copy_rests, copy_wake, has_nothing, is_wanted, woken}
use Rattle.sim_actor.specs.Lives.{Becomes, Decides, lived}
use Rattle.sim_actor.proofs.life.Life.copy_wake.Goals as goal
use Rattle.sim_actor.proofs.life.Life.copy_wake.Goals.{in-Some+else-has_nothing, in-Some+then-has_nothing+else-not-is_wanted+else-is_parked, in_default}

module _ {o : Option Scaling} (a : Actor) (c : ConsumerSettings) (now : ℕ) (st : Standing) where
  -- a copy that has nothing to do goes by its scaler
  rests :
      {wanted : Bool} (sc : Scaling) → o ≡ Some sc → true ≡ has_nothing a → wanted ≡ is_wanted sc st.number a
      → copy_wake o a c now st ≡ copy_rests wanted sc a c now st.next
  rests sc some nothing asked = rw (some, ← nothing, asked) refl

  -- one that has something to do does it, and so does a consumer without a scaler
  goes_on : (sc : Scaling) → o ≡ Some sc → false ≡ has_nothing a → copy_wake o a c now st ≡ consumer_wake a c now a.held
  goes_on sc some something = rw (some, ← something) refl

  unscaled : o ≡ None → copy_wake o a c now st ≡ consumer_wake a c now a.held
  unscaled none = rw none refl

-- a rest that is refused is a decision that is refused
refused_so : (e : Refusal) (new model : Actor) → Becomes (Err e) new model → Decides (Err e) new (Nothing, model)
refused_so refusals.CountLimit new model h = h
refused_so e new model h = absurd h

pub returns-in_err-park-clause-decision : goal.returns-in_err-park-clause-decision
returns-in_err-park-clause-decision c s at_home =
    let refused = refused_so _ _ _ (c.in_err-park.ensures.decision s) in
    rw (rests (woken (lived s c.args.self.now)) c.args.consumer.now c.args.now c.args.standing c.in-Some.scaling c.in-Some.is
    (c.if-has_nothing.ensures s) (c.if-not-is_wanted.ensures s)) (search rules)

pub returns-then-not-is_wanted-clause-decision : goal.returns-then-not-is_wanted-clause-decision
returns-then-not-is_wanted-clause-decision c s at_home =
    rw (rests (woken (lived s c.args.self.now)) c.args.consumer.now c.args.now c.args.standing c.in-Some.scaling c.in-Some.is
    (c.if-has_nothing.ensures s) (c.if-not-is_wanted.ensures s)) (ap (λ (a : Actor). (Nothing, a)) (c.in_ok-park.ensures.decision s))

pub returns-in_err-start-clause-decision : goal.returns-in_err-start-clause-decision
returns-in_err-start-clause-decision c s at_home =
    let refused = refused_so _ _ _ (c.in_err-start.ensures.decision s) in
    rw (
      rests (woken (lived s c.args.self.now)) c.args.consumer.now c.args.now c.args.standing c.in-Some.scaling c.in-Some.is
          (c.if-has_nothing.ensures s) (c.if-not-is_wanted.ensures s),
      ← c.if-is_parked.ensures,
    ) (search rules)

pub returns-then-is_parked-clause-decision : goal.returns-then-is_parked-clause-decision
returns-then-is_parked-clause-decision c s at_home =
    rw (
      rests (woken (lived s c.args.self.now)) c.args.consumer.now c.args.now c.args.standing c.in-Some.scaling c.in-Some.is
          (c.if-has_nothing.ensures s) (c.if-not-is_wanted.ensures s),
      ← c.if-is_parked.ensures,
    ) (ap (λ (a : Actor). (Nothing, a)) (c.in_ok-start.ensures.decision s))

pub returns-clause-decision : goal.returns-clause-decision
returns-clause-decision c s at_home = elim c.match-consumer.branch [
  | in-Some+then-has_nothing+else-not-is_wanted+else-is_parked w ↦
      rw (
        rests (woken (lived s c.args.self.now)) c.args.consumer.now c.args.now c.args.standing w.in-Some.scaling w.in-Some.is
            (w.if-has_nothing.ensures s) (w.if-not-is_wanted.ensures s),
        ← w.if-is_parked.ensures,
      )
      (c.consumer_wake.ensures.decision s at_home)
  | in-Some+else-has_nothing w ↦
      rw (goes_on (woken (lived s c.args.self.now)) c.args.consumer.now c.args.now c.args.standing w.in-Some.scaling w.in-Some.is
      (w.if-has_nothing.ensures s))
      (c.consumer_wake.ensures.decision s at_home)
  | in_default w ↦ rw (unscaled (woken (lived s c.args.self.now)) c.args.consumer.now c.args.now c.args.standing w.in_default.is) (c.consumer_wake.ensures.decision s at_home)
]
