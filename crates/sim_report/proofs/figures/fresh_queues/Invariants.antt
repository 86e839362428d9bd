use Rattle.std.proofs.Common.{◌≡◌, map}
use Rattle.sim_report.specs.Figured.{fresh_queue}
use Rattle.sim_report.proofs.figures.fresh_queues.Given as goal

abbrev pub invariant-loop-queue : goal.invariant-loop-queue
invariant-loop-queue l = l.queues.items ≡ map (fresh_queue l.stretch) l.yielded
