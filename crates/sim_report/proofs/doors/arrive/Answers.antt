use Rattle.std.proofs.Common.{◌≡◌, ◌-◌, ◌∙◌, true, nat_le, List, set, sym, ap, arith}
use Rattle.std.proofs.lemmas.Bool.Decides.{nat_tests}
use Rattle.sim_report.specs.Forwards.{ForwardsState, arrived_by}
use Rattle.sim_report.proofs.Groups.{changed-past, changed-set}
use Rattle.sim_report.proofs.doors.arrive.Goals as goal

pub returns-then-actor-actors : goal.returns-then-actor-actors
returns-then-actor-actors c =
    let actors = c.args.actors.now in
    let actor = c.args.fact.now.agent - c.args.queues in
    let step = arrived_by c.args.fact.now.count.queue c.args.fact.now.at c.args.new in
    let there : nat_le c.args.queues c.args.fact.now.agent ≡ true = grind (arith, nat_tests, c.if-agent-queues.false) in
    let change = changed-set step actor actors c.index-actors-actor.result c.if-actor-actors.true in
    rw there (ap (λ (fs : List ForwardsState). set actors actor fs) c.arrive.ensures ∙ sym change)

pub returns-else-actor-actors : goal.returns-else-actor-actors
returns-else-actor-actors c =
    let step = arrived_by c.args.fact.now.count.queue c.args.fact.now.at c.args.new in
    let there : nat_le c.args.queues c.args.fact.now.agent ≡ true = grind (arith, nat_tests, c.if-agent-queues.false) in
    rw there (sym (changed-past step (c.args.fact.now.agent - c.args.queues) c.args.actors.now c.if-actor-actors.false))
