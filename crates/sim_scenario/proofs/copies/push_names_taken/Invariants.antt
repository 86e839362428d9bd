use Rattle.std.proofs.Common.{◌≡◌, ◌++◌, codes, map}
use Rattle.toml.specs.View.{view}
use Rattle.sqs_formats.specs.Copies.{names_taken}
use Rattle.sqs_formats.specs.Keys.{text_in}
use Rattle.sim_scenario.proofs.Copying.{taken_from}
use Rattle.sim_scenario.proofs.copies.push_names_taken.Given as goal

-- the names so far, with those of the actors that are left, are all
abbrev pub invariant-loop-i : goal.invariant-loop-i
invariant-loop-i l =
    l.initial.names.items ++ names_taken (map (text_in (codes "name")) (map view l.actors)) l.copies ≡ l.names.items ++ taken_from l.actors l.copies l.i
