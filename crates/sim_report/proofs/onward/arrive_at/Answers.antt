use Rattle.std.proofs.Common.{set, sym, ap, ◌∙◌}
use Rattle.sim_report.specs.Forwards.{ForwardsState, arrived}
use Rattle.sim_report.proofs.Groups.{changed-past, changed-set}
use Rattle.sim_report.proofs.onward.arrive_at.Goals as goal

pub returns-then-place-forwards : goal.returns-then-place-forwards
returns-then-place-forwards c =
    let step = arrived c.args.at c.args.new in
    let forwards = c.args.forwards.now in
    let change = changed-set step c.args.place forwards c.index-forwards-place.result c.if-place-forwards.true in
    ap (λ (f : ForwardsState). set forwards c.args.place f) c.arrive.ensures ∙ sym change

pub returns-else-place-forwards : goal.returns-else-place-forwards
returns-else-place-forwards c = sym (changed-past (arrived c.args.at c.args.new) c.args.place c.args.forwards.now c.if-place-forwards.false)
