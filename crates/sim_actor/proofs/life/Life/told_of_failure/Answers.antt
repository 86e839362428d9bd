use Rattle.std.proofs.Common.{ap, rules}
use Rattle.sqs_model.specs.declared.acts.Act.TheVariants.{Nothing}
use Rattle.sqs_model.specs.Actor.{Actor}
use Rattle.sim_actor.proofs.life.Life.told_of_failure.Goals as goal

pub returns-in-Some-clause-decision : goal.returns-in-Some-clause-decision
returns-in-Some-clause-decision c s = rw (← c.self.view_is, c.in-Some.ensures) (c.in_ok-timeout.ensures.decision s)

pub returns-in_err-timeout-clause-decision : goal.returns-in_err-timeout-clause-decision
returns-in_err-timeout-clause-decision c s =
    let timeout = c.in_err-timeout.ensures.decision s in
    rw (← c.self.view_is, c.in-Some.ensures) (search rules)

pub returns-in_err-serve_held-clause-decision : goal.returns-in_err-serve_held-clause-decision
returns-in_err-serve_held-clause-decision c s =
    let none = c.in_default.ensures in
    let served = rw (none.1, none.0) at c.in_err-serve_held.ensures.life s in
    rw (← c.self.view_is, none.0) (search rules)

pub returns-clause-decision : goal.returns-clause-decision
returns-clause-decision c s =
    let none = c.in_default.ensures in
    rw (← c.self.view_is, none.0) (ap (λ (a : Actor). (Nothing, a)) (rw (none.1, none.0) at c.in_ok-serve_held.ensures.life s))
