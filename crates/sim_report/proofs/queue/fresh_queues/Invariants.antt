use Rattle.std.proofs.Common.{◌≡◌, map}
use Rattle.sim_report.specs.Running.{fresh}
use Rattle.sim_report.proofs.queue.fresh_queues.Given as goal

abbrev pub invariant-loop-name : goal.invariant-loop-name
invariant-loop-name l = l.queues.items ≡ map fresh l.yielded
