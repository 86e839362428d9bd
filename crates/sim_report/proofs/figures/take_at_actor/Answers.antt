use Rattle.std.proofs.Common.{◌≡◌, ◌-◌, true, nat_le, sym, refl, arith}
use Rattle.std.proofs.lemmas.Bool.Decides.{nat_tests}
use Rattle.sim_report.specs.Figured.{actor_with}
use Rattle.sim_report.proofs.Groups.{changed-past, changed-set}
use Rattle.sim_report.proofs.figures.take_at_actor.Goals as goal

pub returns-in_ok-take : goal.returns-in_ok-take
returns-in_ok-take c =
    let actors = c.args.actors.now in
    let step = actor_with c.args.place c.args.stretch c.args.fact.now in
    let there : nat_le c.args.queues c.args.fact.now.agent ≡ true = grind (arith, nat_tests, c.if-agent-queues.false) in
    let change = changed-set step (c.args.fact.now.agent - c.args.queues) actors c.index-actors-actor.result c.if-actor-actors.true in
    let taken = c.in_ok-take.ensures in
    rw (there, change, taken, c.index-actors-actor.is) refl

pub returns-else-actor-actors : goal.returns-else-actor-actors
returns-else-actor-actors c =
    let step = actor_with c.args.place c.args.stretch c.args.fact.now in
    let there : nat_le c.args.queues c.args.fact.now.agent ≡ true = grind (arith, nat_tests, c.if-agent-queues.false) in
    rw there (sym (changed-past step (c.args.fact.now.agent - c.args.queues) c.args.actors.now c.if-actor-actors.false))
