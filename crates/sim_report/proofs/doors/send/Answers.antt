use Rattle.std.proofs.Common.{◌≡◌, ◌-◌, ◌∙◌, true, nat_le, List, set, sym, ap, arith}
use Rattle.std.proofs.lemmas.Bool.Decides.{nat_tests}
use Rattle.sim_report.specs.Forwards.{ForwardsState, sent_by}
use Rattle.sim_report.proofs.Groups.{changed-past, changed-set}
use Rattle.sim_report.proofs.doors.send.Goals as goal

pub returns-in_ok-send : goal.returns-in_ok-send
returns-in_ok-send c =
    let actors = c.args.actors.now in
    let actor = c.args.fact.now.agent - c.args.queues in
    let step = sent_by c.args.to c.args.fact.now.at c.args.first in
    let there : nat_le c.args.queues c.args.fact.now.agent ≡ true = grind (arith, nat_tests, c.if-agent-queues.false) in
    let change = changed-set step actor actors c.index-actors-actor.result c.if-actor-actors.true in
    rw there (ap (λ (fs : List ForwardsState). set actors actor fs) c.in_ok-send.ensures ∙ sym change)

pub returns-else-actor-actors : goal.returns-else-actor-actors
returns-else-actor-actors c =
    let step = sent_by c.args.to c.args.fact.now.at c.args.first in
    let there : nat_le c.args.queues c.args.fact.now.agent ≡ true = grind (arith, nat_tests, c.if-agent-queues.false) in
    rw there (sym (changed-past step (c.args.fact.now.agent - c.args.queues) c.args.actors.now c.if-actor-actors.false))
