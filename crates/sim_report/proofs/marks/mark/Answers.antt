use Rattle.std.proofs.Common.{false, true, sym}
use Rattle.sim_report.proofs.Groups.{changed-past, changed-set}
use Rattle.sim_report.proofs.marks.mark.Goals as goal

pub returns-then-queue-marks : goal.returns-then-queue-marks
returns-then-queue-marks c = sym (changed-set (λ m. true) c.args.queue c.args.marks.now false c.if-queue-marks.true)

pub returns-else-queue-marks : goal.returns-else-queue-marks
returns-else-queue-marks c = sym (changed-past (λ m. true) c.args.queue c.args.marks.now c.if-queue-marks.false)
