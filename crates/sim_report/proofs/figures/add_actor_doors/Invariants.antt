use Rattle.std.proofs.Common.{◌≡◌, ◌++◌, map, take}
use Rattle.std.specs.Prelude.{flat_map}
use Rattle.std.specs.List.{enumerate_from}
use Rattle.sqs_formats.specs.Rows.{lines}
use Rattle.sim_report.specs.Doors.{records_of_actor}
use Rattle.sim_report.specs.Figured.{actor_name}
use Rattle.sim_report.proofs.figures.add_actor_doors.Given as goal

abbrev pub invariant-loop-actor : goal.invariant-loop-actor
invariant-loop-actor l =
    l.text ≡ l.initial.text ++ lines (flat_map (records_of_actor l.doors) (take l.actor (enumerate_from 0 (map actor_name l.actors))))
