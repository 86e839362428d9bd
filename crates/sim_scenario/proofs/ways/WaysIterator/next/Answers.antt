use Rattle.std.proofs.Common.{arith, sym, ◌∙◌}
use Rattle.std.proofs.lemmas.Grind.{common_steps}
use Rattle.sim_scenario.proofs.ActorWays.{left_done, left_next}
use Rattle.sim_scenario.proofs.ways.WaysIterator.next.Goals as goal

pub loop-queue-preserved : goal.loop-queue-preserved
loop-queue-preserved c = grind (arith, common_steps)

pub loop-actor-preserved : goal.loop-actor-preserved
loop-actor-preserved c =
    let w = c.loop-actor.self-inside in
    let none = sym c.forward_way.ensures.way ∙ c.in_default-forward_way.is in
    let same = left_done w.scenario.now w.queue c.loop-actor.invariant.1 w.tasks.now w.source w.forward c.in-Some-split_first.actor.now w.actors.now c.in-Some-split_first.others.now c.in-Some-split_first.ensures.cases.0 none in
    (same ∙ c.loop-actor.invariant.0, c.loop-actor.invariant.1)

pub loop-task-preserved : goal.loop-task-preserved
loop-task-preserved c = grind (arith, common_steps)

pub loop-queue-2-preserved : goal.loop-queue-2-preserved
loop-queue-2-preserved c = grind (arith, common_steps)

pub returns-in-Some-to-clause-goes : goal.returns-in-Some-to-clause-goes
returns-in-Some-to-clause-goes c = grind (arith, common_steps)

pub returns-in-Some-to-clause-steps : goal.returns-in-Some-to-clause-steps
returns-in-Some-to-clause-steps c = grind (arith, common_steps)

pub returns-in-Some-policy-clause-goes : goal.returns-in-Some-policy-clause-goes
returns-in-Some-policy-clause-goes c = grind (arith, common_steps)

pub returns-in-Some-policy-clause-steps : goal.returns-in-Some-policy-clause-steps
returns-in-Some-policy-clause-steps c = grind (arith, common_steps)

-- the next way of an actor is the first that is left
abbrev next_way : goal.returns-in-Some-forward_way-clause-steps
next_way c =
    let w = c.loop-actor.self-inside in
    let there = sym c.forward_way.ensures.way ∙ c.in-Some-forward_way.is in
    sym c.loop-actor.invariant.0
    ∙ left_next w.scenario.now w.queue c.loop-actor.invariant.1 w.tasks.now w.source w.forward c.in-Some-split_first.actor.now w.actors.now c.in-Some-split_first.others.now c.in-Some-forward_way.way c.in-Some-split_first.ensures.cases.0 there

pub returns-in-Some-forward_way-clause-goes : goal.returns-in-Some-forward_way-clause-goes
returns-in-Some-forward_way-clause-goes c = let steps = next_way c in grind (arith, common_steps, steps)

pub returns-in-Some-forward_way-clause-steps : goal.returns-in-Some-forward_way-clause-steps
returns-in-Some-forward_way-clause-steps c = next_way c

pub returns-then-leads_to-clause-goes : goal.returns-then-leads_to-clause-goes
returns-then-leads_to-clause-goes c = grind (arith, common_steps)

pub returns-then-leads_to-clause-steps : goal.returns-then-leads_to-clause-steps
returns-then-leads_to-clause-steps c = grind (arith, common_steps)

pub returns-clause-goes : goal.returns-clause-goes
returns-clause-goes c = grind (arith, common_steps)

pub returns-clause-steps : goal.returns-clause-steps
returns-clause-steps c = grind (arith, common_steps)
