use Rattle.std.proofs.Common.{◌≡◌, ◌++◌, take}
use Rattle.std.specs.Prelude.{flat_map}
use Rattle.sqs_formats.specs.Rows.{lines}
use Rattle.sim_report.specs.Figured.{actor_records}
use Rattle.sim_report.proofs.figures.add_actors.Given as goal

abbrev pub invariant-loop-actor : goal.invariant-loop-actor
invariant-loop-actor l = l.text ≡ l.initial.text ++ lines (flat_map (actor_records l.stretch) (take l.actor-index l.actors))
