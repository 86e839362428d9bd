use Rattle.std.proofs.Common.{sym, refl}
use Rattle.sim_report.specs.Forwards.{forwarded}
use Rattle.sim_report.proofs.Groups.{changed-past, changed-set}
use Rattle.sim_report.proofs.onward.send_at.Goals as goal

pub returns-in_ok-send : goal.returns-in_ok-send
returns-in_ok-send c =
    let change = changed-set (forwarded c.args.at c.args.first) c.args.place c.args.forwards.now c.index-forwards-place.result c.if-place-forwards.true in
    let taken = c.in_ok-send.ensures in
    rw (change, taken, c.index-forwards-place.is) refl

pub returns-else-place-forwards : goal.returns-else-place-forwards
returns-else-place-forwards c = sym (changed-past (forwarded c.args.at c.args.first) c.args.place c.args.forwards.now c.if-place-forwards.false)
