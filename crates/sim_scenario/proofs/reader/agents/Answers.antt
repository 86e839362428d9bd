use Rattle.std.proofs.Common.{Ok, ap, sym}
use Rattle.sqs_formats.specs.Reading.{and_then}
use Rattle.sqs_formats.specs.Scenario.{agents}
use Rattle.sim_scenario.specs.Tops.{top_view}
use Rattle.sim_scenario.proofs.InRange.{whole_in_range}
use Rattle.sim_scenario.proofs.reader.agents.Goals as goal

pub assembled-requires : goal.assembled-requires
assembled-requires c =
    rw c.in_ok-actors-2.ensures (
    whole_in_range c.args.scripts.now (top_view c.args.top.now) c.args.outline.now c.in_ok-queues.queues.items c.in_ok-each.field-0.items c.in_ok-actors.actors.items c.in_ok-tasks.tasks.items c.requires.numbers
    (record { outlined = c.requires.outlined; queues_are = c.in_ok-queues.ensures; judged_are = c.in_ok-each.ensures; actors_are = c.in_ok-actors.ensures; tasks_are = c.in_ok-tasks.ensures }))

pub returns-clause-value : goal.returns-clause-value
unfolding agents and_then
returns-clause-value c =
    rw (c.in_ok-queues.ensures, c.in_ok-each.ensures, c.in_ok-actors.ensures, c.in_ok-tasks.ensures) (ap Ok (sym (rw c.in_ok-actors-2.ensures at c.in_ok-scenario.ensures.value)))
