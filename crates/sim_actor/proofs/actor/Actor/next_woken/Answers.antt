use Rattle.std.proofs.Common.{Err, Ok, Result}
use Rattle.sim_clock.specs.declared.refusal.Refusal.{Refusal}
use Rattle.sim_clock.specs.declared.refusal.Refusal.TheVariants as refusals
use Rattle.sqs_model.specs.declared.acts.Act.{Act}
use Rattle.sqs_model.specs.declared.agents.Role.TheVariants.{Producer, Script}
use Rattle.sqs_model.specs.Actor.{Actor}
use Rattle.sim_actor.specs.Lives.{Decides, Meets}
use Rattle.sim_actor.proofs.actor.Actor.next_woken.Goals as goal

-- a decision after which the actor is as it was if memory runs out
decides_so : (r : Result Act Refusal) (old new : Actor) (model : Act × Actor) → Meets r old new model → Decides r new model
decides_so (Ok act) old new model h = h
decides_so (Err refusals.CountLimit) old new model h = h
decides_so (Err refusals.Memory) old new model h = h.1
decides_so (Err e) old new model h = absurd h

pub returns-in-Script-clause-decision : goal.returns-in-Script-clause-decision
returns-in-Script-clause-decision c =
    rw (← c.self.view_is, c.in-Script.is) (decides_so _ _ _ _ (rw c.as_slice.ensures at c.script_wake.ensures.decision (record { home = c.self.inside.settings.home; role = Script c.in-Script.script })))

pub returns-in-Producer-clause-decision : goal.returns-in-Producer-clause-decision
returns-in-Producer-clause-decision c =
    rw (← c.self.view_is, c.in-Producer.is) (decides_so _ _ _ _ (c.producer_wake.ensures.decision (record { home = c.self.inside.settings.home; role = Producer c.in-Producer.producer })))
