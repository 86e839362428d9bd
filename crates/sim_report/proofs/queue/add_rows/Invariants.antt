use Rattle.std.proofs.Common.{◌≡◌, take}
use Rattle.sim_report.specs.Running.{rows_added}
use Rattle.sim_report.proofs.queue.add_rows.Given as goal

abbrev pub invariant-loop-row : goal.invariant-loop-row
invariant-loop-row l = l.queues ≡ rows_added l.initial.queues (take l.row-index l.rows)
