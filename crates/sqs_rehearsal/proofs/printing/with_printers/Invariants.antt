use Rattle.std.proofs.Common.{◌≡◌, map}
use Rattle.std.specs.Arc.{arc_value}
use Rattle.sim_engine.specs.Mapping.{with_mapper}
use Rattle.sqs_rehearsal.proofs.printing.with_printers.Given as goal

abbrev pub invariant-loop-site : goal.invariant-loop-site
invariant-loop-site l = l.made.items ≡ map (with_mapper (arc_value l.names)) l.yielded
