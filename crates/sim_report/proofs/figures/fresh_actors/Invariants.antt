use Rattle.std.proofs.Common.{◌≡◌, map}
use Rattle.sim_report.specs.Figured.{fresh_actor}
use Rattle.sim_report.proofs.figures.fresh_actors.Given as goal

abbrev pub invariant-loop-name : goal.invariant-loop-name
invariant-loop-name l = l.actors.items ≡ map fresh_actor l.yielded
