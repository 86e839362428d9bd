use Rattle.std.proofs.Common.{◌≡◌, ◌++◌, map}
use Rattle.toml.specs.View.{view}
use Rattle.sqs_formats.specs.Copies.{copies_asked, copies_within}
use Rattle.sim_scenario.proofs.Copying.{within_from}
use Rattle.sim_scenario.proofs.copies.copies_within.Given as goal

-- the copies so far, with those of the actors that are left, are all
abbrev pub invariant-loop-actor : goal.invariant-loop-actor
invariant-loop-actor l =
    copies_within l.room (map (copies_asked l.version) (map view l.actors)) ≡ l.copies.items ++ within_from l.version l.left l.actors l.actor-index
