use Rattle.std.proofs.Common.{sym, ◌∙◌}
use Rattle.sim_report.proofs.Reaching.{closed-further}
use Rattle.sim_report.proofs.marks.are_closed.Goals as goal

pub loop-place-preserved : goal.loop-place-preserved
loop-place-preserved c =
    closed-further c.args.marks.now c.args.ways.now c.loop-place.place _ c.loop-place-test.true c.loop-place.invariant (sym c.grows_by.ensures ∙ c.if-grows_by.false)
