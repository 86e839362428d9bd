use Rattle.std.proofs.Common.{rules, ap, set, sym, ◌∙◌}
use Rattle.sim_report.specs.declared.left.Left.{Left}
use Rattle.sim_report.specs.Left.{left_with}
use Rattle.sim_report.proofs.Groups.{changed-past, changed-set}
use Rattle.sim_report.proofs.left.count_message.Goals as goal

pub returns-in_ok-left : goal.returns-in_ok-left
returns-in_ok-left c =
    let left = c.args.left.now in
    let site = c.args.message.now.id.site in
    let none : Left = record { visible = 0; in_flight = 0; delayed = 0 } in
    let change = changed-set (left_with c.args.message.now.place) site left none c.if-site-left.true in
    ap (set left site) (search rules) ∙ sym change

pub returns-else-site-left : goal.returns-else-site-left
returns-else-site-left c = sym (changed-past (left_with c.args.message.now.place) c.args.message.now.id.site c.args.left.now c.if-site-left.false)
